-- `forms_planes::absorb_byte` meets its contract. The invariant: what the bits below b add is added. What they all come
-- to is `PlaneLaws`.
-- Assumes nothing.
use Prim.Native.Nat.{◌+◌, ◌*◌, ◌<◌}
use mathlib.Core.Path.{◌≡◌, refl, sym, ap, ◌∙◌}
use native.Mathlib.Omega.{arith}
use lib.Bits.{bit_xor, xor_zero_r}
use Rattle.strings.specs.Sums.{bit_of, xor_sum}
use Rattle.strings.proofs.SumLaws.{sum_step}
use Rattle.strings.proofs.Meaning.{bitOf_lt}
use Rattle.forms_columns.specs.Stacks.{alpha, stack_at}
use Rattle.forms_planes.proofs.PlaneLaws.{masked-added, two-added, term, two-planes}
use Rattle.forms_planes.proofs.absorb_byte.Goals as goal

pub loop-b-init : goal.loop-b-init
unfolding xor_sum
loop-b-init c = ((λ d v z is. sym (xor_zero_r _)), λ q g other h. refl)

pub add_byte-requires : goal.add_byte-requires
add_byte-requires c = (omega arith, omega arith)

pub add_byte-requires-in-loop-b : goal.add_byte-requires-in-loop-b
add_byte-requires-in-loop-b c = (omega (arith, c.add_byte.auto.t), omega arith)

pub loop-b-preserved : goal.loop-b-preserved
loop-b-preserved c =
    let a = c.args in
    let l = c.loop-b in
    let one = c.add_byte in
    let two = c.add_byte-in-loop-b in
    let b = l.b in
    let lt : b < 8 = omega (arith, c.loop-b-test.true) in (
      (λ d v z is.
          two-added (stack_at d l.t a.f z) _ _ (bit_of v b * (bit_of a.x z * alpha d (a.p + b))) (bit_of v b * (bit_of a.y z * alpha d (a.p + 1 + b)))
          (masked-added d l.t one.new.t (a.p + b) a.x _ (bit_of v b) a.f z (omega arith) (omega arith) (bitOf_lt v b) (is b lt) one.ensures.f_after (λ r other. one.ensures.by_index r a.f (λ e k. other e) (omega arith)))
          (masked-added d one.new.t two.new.t (a.p + 1 + b) a.y _ (bit_of v b) a.f z (omega arith) (omega arith) (bitOf_lt v b) (is b lt) two.ensures.f_after (λ r other. two.ensures.by_index r a.f (λ e k. other e) (omega arith)))
          ∙ sum_step (stack_at d a.t.now a.f z) (stack_at d l.t a.f z) b (term d a.p (bit_of a.x z) (bit_of a.y z) v) (l.invariant.0 d v z is)),
      (λ q g other h. two.ensures.by_index q g (λ e. other) h ∙ one.ensures.by_index q g (λ e. other) h ∙ l.invariant.1 q g other h),
    )

pub returns : goal.returns
returns c =
    let a = c.args in
    let l = c.loop-b in
    let end : l.b ≡ 8 = omega arith in
    record { by_index = (λ d v z is hv. (rw end at l.invariant.0) d v z is ∙ ap (bit_xor (stack_at d a.t.now a.f z)) (two-planes d a.p (bit_of a.x z) (bit_of a.y z) v (bitOf_lt _ z) (bitOf_lt _ z) hv)); by_index_2 = l.invariant.1 }
