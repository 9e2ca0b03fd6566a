-- `forms_batching::stacks::fill_rest` meets its contract. The invariant: the ends of the first e vectors are there.
-- Assumes nothing.
use Prim.Native.Nat.{ℕ, ◌+◌, ◌≤◌, ◌<◌}
use mathlib.Core.Path.{◌≡◌, refl, ◌∙◌}
use mathlib.Core.List.{List}
use native.Mathlib.Decide.{dec_lt}
use native.Mathlib.Omega.{arith}
use Rattle.protocol.specs.Shape.{most_variables}
use Rattle.lanes.specs.Lanes.{lane_at}
use Rattle.forms_choices.specs.Entries.{up_to}
use Rattle.forms_columns.specs.Stacks.{coordinate_of}
use Rattle.forms_batching.proofs.stacks.fill_rest.Invariants.{Rests}
use Rattle.forms_batching.proofs.stacks.fill_rest.Goals as goal

rest_more : (T : List ℕ) (n from e : ℕ) (l l' : List ℕ) → ((c : ℕ) → from ≤ c → c < most_variables → coordinate_of l' e c ≡ up_to n (λ k. lane_at T k e) c)
    → ((f c : ℕ) → c < most_variables → (f ≡ e → from ≤ c → ⊥) → coordinate_of l' f c ≡ coordinate_of l f c) → Rests T n from l e → Rests T n from l' (e + 1)
rest_more T n from e l l' own kept done i c hi low hc = go (dec_lt i e)
  where
    go : Dec (i < e) → coordinate_of l' i c ≡ up_to n (λ k. lane_at T k i) c
    go (yes lt) = kept i c hc (λ same _. omega arith) ∙ done i c lt low hc
    go (no ge) = let same : i ≡ e = omega arith in rw same (own c low hc)

pub loop-e-init : goal.loop-e-init
loop-e-init c = ((λ i k h. absurd (omega arith)), (λ i k h. refl))

pub put_vector-requires : goal.put_vector-requires
put_vector-requires c = (c.requires.0, omega arith, c.requires.2)

pub loop-e-preserved : goal.loop-e-preserved
loop-e-preserved c =
    let a = c.args in
    let l = c.loop-e in
    let done = c.put_vector in (
      rest_more a.table.now a.n a.from l.e l.vectors done.new.vectors done.ensures.by_index done.ensures.by_index_2 l.invariant.0,
      (λ i k h. done.ensures.by_index_2 i k (omega (arith, h, c.requires.2)) (λ _ low. omega arith) ∙ l.invariant.1 i k h),
    )

pub returns : goal.returns
returns c =
    let l = c.loop-e in
    record { by_index = (λ i k h low hk. l.invariant.0 i k (omega arith) low hk); by_index_2 = l.invariant.1 }
