-- `checking::input::read_lengths` meets its contract. The loop's invariant: the lengths so far are those of the
-- sections before `next`, and from there on the others have still to follow.
-- Assumes nothing.
use mathlib.Core.Path.{◌≡◌, refl, sym, ap, ◌∙◌}
use native.Mathlib.Omega.{arith}
use borrow.Author.Rules.{rules}
use lib.ListN.{length, length-set}
use lib.Dec.{eqb}
use lib.Seq.{take_all}
use Rattle.protocol.specs.Frames.{framed, framed_length}
use Rattle.protocol.specs.Check.{lengths_in}
use Rattle.sections.proofs.SpanLaws.{found, not_found, found_inside}
use Rattle.checking.proofs.LengthLaws.{turn_first, turn_missing, turn_next, turn_end, lengths_more, end_more}
use Rattle.checking.proofs.input.read_lengths.Goals as goal

pub loop-i-init : goal.loop-i-init
unfolding lengths_in framed_length
loop-i-init c = (refl, search rules, refl, refl, turn_first c.args.s.now 6)

pub returns-in_default : goal.returns-in_default
returns-in_default c =
    let l = c.loop-i in
    let no = l.invariant.4 ∙ turn_missing c.args.s.now 6 l.i l.next (omega arith) (not_found c.in_default.is c.find.ensures.result_value) in
    rw no refl

pub overflow_sub-lengths : goal.overflow_sub-lengths
overflow_sub-lengths c =
    let i = found_inside _ c.in-At.is c.find.ensures.inside in
    omega arith

pub loop-i-preserved : goal.loop-i-preserved
loop-i-preserved c =
    let l = c.loop-i in
    let s = c.args.s.now in
    let m = found c.in-At.is c.find.ensures.result_value in (
      simp length-set l.invariant.0,
      (found_inside _ c.in-At.is c.find.ensures.inside).1,
      lengths_more s l.lengths l.i l.next _ _ l.invariant.2 l.invariant.3 m (omega arith),
      end_more s l.lengths l.i l.next _ _ l.invariant.2 l.invariant.3 m,
      l.invariant.4 ∙ turn_next s 6 l.i l.next (omega arith) _ _ m,
    )

pub returns : goal.returns
returns c =
    let l = c.loop-i in
    let s = c.args.s.now in
    let all : l.i ≡ 6 = omega arith in
    let whole : framed (lengths_in 6 s) s ≡ eqb l.next (length s) = l.invariant.4 ∙ turn_end s 6 l.i l.next all l.invariant.1 in
    let are : l.lengths ≡ lengths_in 6 s = sym (take_all l.i l.lengths (omega arith)) ∙ l.invariant.2 ∙ ap (λ k. lengths_in k s) all in
    c.then_some.ensures ∙ rw (whole, ← are) refl
