-- `forms_batching::lines::add_masked` meets its contract. The invariant: the first f bytes of each half are added.
-- Assumes nothing.
use borrow.Author.Rules.{rules}
use Prim.Native.Nat.{ℕ, ◌+◌, ◌%◌}
use mathlib.Core.Path.{◌≡◌, refl, sym, ap, ap₂}
use native.Mathlib.Nat.{add_assoc}
use native.Mathlib.Omega.{arith}
use lib.ListN.{set}
use lib.Bits.{bit_xor, bit_and}
use Rattle.strings.specs.Sums.{byte_at}
use Rattle.chunks.proofs.HalfLaws.{halves_more}
use Rattle.forms_batching.proofs.lines.add_masked.Invariants.{masked}
use Rattle.forms_batching.proofs.lines.add_masked.Goals as goal

pub loop-f-init : goal.loop-f-init
loop-f-init c = λ k h. ((λ l. absurd (omega arith)), λ l. refl)

pub loop-f-preserved : goal.loop-f-preserved
loop-f-preserved c =
    let a = c.args in
    let l = c.loop-f in
    let C = a.cells.now in
    let M = a.bits.now in
    let y = bit_xor (byte_at l.acc l.f) (bit_and (byte_at C (a.at + l.f)) (byte_at M (a.from + l.f))) in
    let low : l.f % 16 ≡ l.f = omega arith in
    let high : (16 + l.f) % 16 ≡ l.f = omega arith in
    halves_more (masked C a.at M a.from) a.acc.now l.acc l.f y _ (omega arith) (search rules)
    (ap (λ (k : ℕ). bit_xor (byte_at l.acc l.f) (bit_and (byte_at C (a.at + l.f)) (byte_at M (a.from + k)))) (sym low))
    (ap₂ (λ (j k : ℕ). bit_xor (byte_at (set l.acc l.f y) (16 + l.f)) (bit_and (byte_at C j) (byte_at M (a.from + k)))) (add_assoc a.at 16 l.f) (sym high))
    l.invariant

pub returns : goal.returns
returns c =
    let l = c.loop-f in
    λ k h. (l.invariant k h).0 (omega arith)
