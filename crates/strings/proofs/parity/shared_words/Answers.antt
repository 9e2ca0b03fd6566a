-- `strings::parity::shared_words` meets its contract. The invariant: the parity of the ones of the sum is that of the
-- ones shared in the first i words.
-- Assumes nothing.
use Prim.Native.Nat.{◌+◌, ◌*◌, ◌%◌}
use mathlib.Core.Path.{◌≡◌, refl, sym, ap, ap₂, ◌∙◌}
use native.Mathlib.Omega.{arith}
use lib.Bits.{bit_and, bit_xor}
use lib.Count.{ones}
use Rattle.strings.specs.Words.{word_of}
use Rattle.strings.specs.Shared.{shared}
use Rattle.strings.proofs.ParityLaws.{parity-add, ones_xor}
use Rattle.strings.proofs.SharedLaws.{shared-word}
use Rattle.strings.proofs.parity.shared_words.Goals as goal

pub loop-i-init : goal.loop-i-init
unfolding shared ones
loop-i-init c = refl

pub loop-i-preserved : goal.loop-i-preserved
loop-i-preserved c =
    let a = c.args in
    let l = c.loop-i in
    let row = a.row.now in
    let x = a.x.now in
    let at = l.i * 8 in
    let here = bit_and (word_of row at 8) (word_of x at 8) in
    let word : bit_and c.word_at.result c.word_at-in-loop-i.result ≡ here = ap₂ bit_and c.word_at.ensures c.word_at-in-loop-i.ensures in
    let more : shared at row x + ones here ≡ shared (at + 8) row x =
    omega (arith, shared-word row x at (λ i. (c.type_inv.row i).fits) (λ i. (c.type_inv.x i).fits) 8) in
    let e : at + 8 ≡ (l.i + 1) * 8 = omega arith in
    ap (λ w. ones (bit_xor l.sum w) % 2) word ∙ ones_xor l.sum here
    ∙ ap (λ z. bit_xor z (ones here % 2)) l.invariant
    ∙ sym (parity-add (shared at row x) (ones here))
    ∙ ap (λ z. z % 2) (more ∙ ap (λ k. shared k row x) e)

pub returns : goal.returns
returns c =
    let l = c.loop-i in
    let e : l.i ≡ c.args.words = omega arith in
    rw e at l.invariant
