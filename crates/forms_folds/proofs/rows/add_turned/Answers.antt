-- `forms_folds::rows::add_turned` meets its contract. The invariant: the first f bytes of each half are added.
-- Assumes nothing.
use borrow.Author.Rules.{rules}
use Prim.Native.Nat.{◌+◌, ◌*◌, ◌/◌, ◌%◌}
use mathlib.Core.Path.{◌≡◌, refl, ap}
use native.Mathlib.Omega.{arith}
use lib.ListN.{set}
use lib.Bits.{bit_xor}
use Rattle.strings.specs.Sums.{byte_at}
use Rattle.chunks.proofs.HalfLaws.{halves_more}
use Rattle.forms_folds.proofs.rows.add_turned.Invariants.{added}
use Rattle.forms_folds.proofs.rows.add_turned.Goals as goal

pub loop-f-init : goal.loop-f-init
loop-f-init c = λ k h. ((λ l. absurd (omega arith)), λ l. refl)

pub loop-f-preserved : goal.loop-f-preserved
loop-f-preserved c =
    let a = c.args in
    let l = c.loop-f in
    let t = a.turned.now in
    let y = bit_xor (byte_at l.sum l.f) (byte_at t (a.at + l.f)) in
    let first : a.at + l.f ≡ a.at + (l.f / 16 * 160 + l.f % 16) = omega arith in
    let second : a.at + 160 + l.f ≡ a.at + ((16 + l.f) / 16 * 160 + (16 + l.f) % 16) = omega arith in
    halves_more (added t a.at) a.sum.now l.sum l.f y _ (omega arith) (search rules) (ap (λ j. bit_xor (byte_at l.sum l.f) (byte_at t j)) first)
    (ap (λ j. bit_xor (byte_at (set l.sum l.f y) (16 + l.f)) (byte_at t j)) second)
    l.invariant

pub returns : goal.returns
returns c =
    let l = c.loop-f in
    λ e h. (l.invariant e h).0 (omega arith)
