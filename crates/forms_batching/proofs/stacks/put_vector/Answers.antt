-- `forms_batching::stacks::put_vector` meets its contract. The part that was lent is the end of the vector of e.
-- Assumes nothing.
use Prim.Native.Nat.{ℕ, ◌+◌, ◌*◌, ◌-◌, ◌≤◌, ◌<◌}
use mathlib.Core.Path.{◌≡◌, ap, ◌∙◌}
use native.Mathlib.Omega.{arith}
use lib.ListN.{length, take, drop, length-take, length-drop}
use Rattle.protocol.specs.Shape.{most_variables}
use Rattle.strings.specs.Sums.{byte_at}
use Rattle.lanes.specs.Lanes.{lane_at}
use Rattle.forms_choices.specs.Entries.{up_to}
use Rattle.forms_batching.proofs.VectorLaws.{rest_in, rest-kept}
use Rattle.forms_batching.proofs.stacks.put_vector.Goals as goal

pub returns : goal.returns
returns c =
    let a = c.args in
    let l = a.vectors.now in
    let at = a.e * most_variables + a.from in
    let k = most_variables - a.from in
    let done = c.fill_vector in
    let r = done.new.v in
    let e : a.e * most_variables + most_variables - at ≡ k = omega arith in
    let fits : a.e * most_variables + most_variables ≤ length l = omega arith in
    let long : length (take k (drop at l)) ≡ k = simp (length-take, length-drop) (omega arith) in
    let kept : length r ≡ k = rw e at done.auto.v ∙ long in
    let all : (i : ℕ) → i < length (take k (drop at l)) → byte_at r i ≡ up_to a.n (λ x. lane_at a.table.now x a.e) (a.from + i) = rw e at done.ensures in
    rw e (record {
      by_index = (λ i low hi.
          let own : a.from + (i - a.from) ≡ i = omega arith in
          rest_in a.e a.from l r fits (omega arith) kept i low hi ∙ all (i - a.from) (omega (arith, long)) ∙ ap (up_to a.n (λ x. lane_at a.table.now x a.e)) own);
      by_index_2 = rest-kept a.e a.from l r fits (omega arith) kept;
    })
