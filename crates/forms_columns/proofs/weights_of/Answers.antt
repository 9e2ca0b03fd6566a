-- `forms_columns::weights_of` meets its contract. Each element is changed once (`Elementwise`), to the power of α
-- that the weight is.
-- Assumes nothing.
use Prim.Native.Nat.{ℕ}
use mathlib.Core.Path.{refl, ap, ◌∙◌}
use native.Mathlib.Omega.{arith}
use lib.ListN.{length, length-replicate}
use Rattle.strings.proofs.Elementwise.{changed, changed-length, changed_more, changed-all}
use Rattle.forms_columns.specs.Stacks.{planes, byte_product}
use Rattle.forms_columns.proofs.ProductLaws.{alpha-zero, alpha_more}
use Rattle.forms_columns.proofs.weights_of.Invariants.{change}
use Rattle.forms_columns.proofs.weights_of.Goals as goal

pub loop-s-init : goal.loop-s-init
unfolding changed
loop-s-init c = (refl, alpha-zero c.args.degree)

pub loop-s-preserved : goal.loop-s-preserved
unfolding byte_product
loop-s-preserved c =
    let a = c.args in
    let l = c.loop-s in (
      changed_more (change a.degree) _ l.weights l.s _ l.invariant.0 l.invariant.1,
      c.multiply-weight.ensures ∙ ap (byte_product a.degree 2) l.invariant.1 ∙ alpha_more a.degree l.s,
    )

pub returns : goal.returns
returns c =
    let l = c.loop-s in
    let g = change c.args.degree in
    let long = length-replicate {A = ℕ} planes 0 in (
      ap length l.invariant.0 ∙ changed-length g _ l.s ∙ long,
      λ s h. changed-all g _ l.weights l.s l.invariant.0 (omega arith) (omega arith) s (omega arith),
    )
