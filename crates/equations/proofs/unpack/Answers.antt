-- `equations::unpack` meets its contract. Each element is changed once (`Elementwise`).
-- Assumes nothing.
use Prim.Native.Nat.{ℕ}
use mathlib.Core.Path.{◌≡◌, refl, ap, ◌∙◌}
use mathlib.Core.List.{List}
use native.Mathlib.Omega.{arith}
use Rattle.protocol.specs.Strings.{bit}
use Rattle.strings.specs.Sums.{byte_at}
use Rattle.strings.proofs.Elementwise.{changed, changed_more, changed-at, changed-past}
use Rattle.equations.proofs.unpack.Goals as goal

pub loop-c-init : goal.loop-c-init
unfolding changed
loop-c-init c = refl

pub loop-c-preserved : goal.loop-c-preserved
loop-c-preserved c =
    let a = c.args in
    let l = c.loop-c in
    changed_more (λ k y. bit a.x.now k) a.out.now l.out l.c _ l.invariant c.bit_at.ensures

pub returns : goal.returns
returns c =
    let a = c.args in
    let l = c.loop-c in
    let end : l.c ≡ a.n = omega arith in
    let is : l.out ≡ changed (λ k y. bit a.x.now k) a.out.now a.n = rw end at l.invariant in record {
      by_index = (λ i h. ap (λ (d : List ℕ). byte_at d i) is ∙ changed-at (λ k y. bit a.x.now k) a.out.now a.n i c.requires.0 h);
      by_index_2 = (λ i h. ap (λ (d : List ℕ). byte_at d i) is ∙ changed-past (λ k y. bit a.x.now k) a.out.now a.n i h);
    }
