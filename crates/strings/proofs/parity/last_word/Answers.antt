-- `strings::parity::last_word` meets its contract: the bytes of the last word that are before `from` are shifted out
-- (`WordLaws`).
-- Assumes nothing.
use Prim.Native.Nat.{◌+◌, ◌*◌, ◌/◌, ◌-◌, ◌^◌}
use mathlib.Core.Path.{◌≡◌, sym, ap, ap₂, ◌∙◌}
use native.Mathlib.Omega.{arith}
use lib.ListN.{length}
use lib.Bits.{bit_and}
use lib.Count.{ones}
use Rattle.strings.specs.Words.{word_of}
use Rattle.strings.specs.Shared.{shared}
use Rattle.strings.proofs.SharedLaws.{shared_last}
use Rattle.strings.proofs.parity.last_word.Goals as goal

pub returns : goal.returns
returns c =
    let a = c.args in
    let row = a.row.now in
    let x = a.x.now in
    let at = length row - 8 in
    let over = a.from - at in
    let k : 8 ≡ over + (8 - over) = omega arith in
    let d : over * 8 ≡ 8 * over = omega arith in
    let start : at + over ≡ a.from = omega arith in
    let end : at + over + (8 - over) ≡ length row = omega arith in
    let word : bit_and c.word_at.result c.word_at-2.result ≡ bit_and (word_of row at (over + (8 - over))) (word_of x at (over + (8 - over))) =
    ap₂ bit_and (c.word_at.ensures ∙ ap (word_of row at) k) (c.word_at-2.ensures ∙ ap (word_of x at) k) in
    ap₂ (λ w z. ones (w / 2 ^ z) + shared a.from row x) word d
    ∙ ap (λ z. ones (bit_and (word_of row at (over + (8 - over))) (word_of x at (over + (8 - over))) / 2 ^ (8 * over)) + shared z row x) (sym start)
    ∙ shared_last row x at (λ i. (c.type_inv.row i).fits) (λ i. (c.type_inv.x i).fits) over (8 - over)
    ∙ ap (λ z. shared z row x) end
