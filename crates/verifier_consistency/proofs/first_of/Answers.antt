-- `verifier_consistency::first_of` meets its contract. The invariant: the repetitions passed are consistent.
-- Assumes nothing.
use borrow.Author.Count.{below_more}
use Prim.Native.Nat.{ℕ}
use mathlib.Core.Path.{◌≡◌, sym, ◌∙◌}
use mathlib.Core.Bool.{Bool, true, false}
use mathlib.Core.List.{List}
use native.Mathlib.Omega.{arith}
use lib.Dec.{eqb}
use lib.ListN.{length}
use Rattle.strings.specs.Sums.{byte_at}
use Rattle.strings.proofs.Rows.{row-end}
use Rattle.verifier_consistency.specs.Consistency.{row_consistent}
use Rattle.theorems.proofs.TestLaws.{eqb_same, eqb-other}
use Rattle.format.proofs.FirstLaws.{first_found, none_found}
use Rattle.verifier_consistency.proofs.first_of.Goals as goal

-- the test of the rows that were lent is that of the blocks
told : (h v h' v' : List ℕ) {k t : ℕ} (x : ℕ) → h ≡ h' → v ≡ v' → k ≡ t → (u : List ℕ) (δ : ℕ) (b : Bool) → eqb x 0 ≡ row_consistent h v u δ k → eqb x 0 ≡ b → row_consistent h' v' u δ t ≡ b
told h v h' v' x e f l u δ b said g = sym (λ i. row_consistent (e i) (f i) u δ (l i)) ∙ sym said ∙ g

pub loop-e-init : goal.loop-e-init
loop-e-init c u are k h = absurd (omega (arith, h))

pub row_at-hashed_e-requires : goal.row_at-hashed_e-requires
row_at-hashed_e-requires c =
    omega (arith, c.requires.0.0, row-end c.loop-e.e (length c.args.delta.now) c.args.t (omega arith))

pub row_at-v_e-requires : goal.row_at-v_e-requires
row_at-v_e-requires c =
    omega (arith, c.requires.0.1, row-end c.loop-e.e (length c.args.delta.now) c.args.t (omega arith))

pub difference-requires : goal.difference-requires
difference-requires c =
    (omega (arith, c.row_at-hashed_e.ensures.1, c.requires.1), omega (arith, c.row_at-v_e.ensures.1, c.requires.1))

pub returns-then-difference-ne0 : goal.returns-then-difference-ne0
returns-then-difference-ne0 c u are =
    let l = c.loop-e in
    first_found (length c.args.delta.now) _ l.e (omega arith) (l.invariant u are) (told c.row_at-hashed_e.result.now c.row_at-v_e.result.now _ _ c.difference.result c.row_at-hashed_e.ensures.0 c.row_at-v_e.ensures.0 c.requires.1 u (byte_at c.args.delta.now l.e) false (c.difference.ensures u are) (eqb-other c.difference.result 0 c.if-difference-ne0.true))

pub loop-e-preserved : goal.loop-e-preserved
loop-e-preserved c u are =
    let l = c.loop-e in
    below_more _ _ (l.invariant u are) (told c.row_at-hashed_e.result.now c.row_at-v_e.result.now _ _ c.difference.result c.row_at-hashed_e.ensures.0 c.row_at-v_e.ensures.0 c.requires.1 u (byte_at c.args.delta.now l.e) true (c.difference.ensures u are) (eqb_same c.difference.result 0 c.if-difference-ne0.false))

pub returns : goal.returns
returns c u are =
    let l = c.loop-e in
    none_found (length c.args.delta.now) _ (λ k h. l.invariant u are k (omega (arith, h)))
