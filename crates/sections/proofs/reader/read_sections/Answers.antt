-- `sections::reader::read_sections` meets its contract: after each section, the lengths that are left have still to
-- follow from where the reader stands.
-- Assumes nothing.
use mathlib.Core.Path.{refl, sym, ◌∙◌}
use mathlib.Core.List.{[]}
use native.Mathlib.Omega.{arith}
use Rattle.format.proofs.AskLaws.{exit, said_yes, same_first}
use Rattle.sections.proofs.ReaderLaws.{none_passed, one_more, one_stops, one_is, all_passed, section-taken}
use Rattle.sections.proofs.reader.read_sections.Goals as goal

pub returns-in_err-c-clause-told : goal.returns-in_err-c-clause-told
returns-in_err-c-clause-told c =
    let ls = c.args.lengths.now in
    let p = c.args.proof in
    one_stops (omega arith) (none_passed ls p) c.from_residual.result c.next_of.ensures c.in_err-c.was c.from_residual.ensures.1

pub returns-in_err-d-clause-told : goal.returns-in_err-d-clause-told
returns-in_err-d-clause-told c =
    let ls = c.args.lengths.now in
    let p = c.args.proof in
    let p1 = one_more (omega arith) (none_passed ls p) c.next_of.ensures c.in_ok-c.was in
    one_stops (omega arith) p1 c.from_residual-in_err-d.result c.next_of-2.ensures c.in_err-d.was c.from_residual-in_err-d.ensures.1

pub returns-in_err-u-clause-told : goal.returns-in_err-u-clause-told
returns-in_err-u-clause-told c =
    let ls = c.args.lengths.now in
    let p = c.args.proof in
    let p1 = one_more (omega arith) (none_passed ls p) c.next_of.ensures c.in_ok-c.was in
    let p2 = one_more (omega arith) p1 c.next_of-2.ensures c.in_ok-d.was in
    one_stops (omega arith) p2 c.from_residual-in_err-u.result c.next_of-3.ensures c.in_err-u.was c.from_residual-in_err-u.ensures.1

pub returns-in_err-v-clause-told : goal.returns-in_err-v-clause-told
returns-in_err-v-clause-told c =
    let ls = c.args.lengths.now in
    let p = c.args.proof in
    let p1 = one_more (omega arith) (none_passed ls p) c.next_of.ensures c.in_ok-c.was in
    let p2 = one_more (omega arith) p1 c.next_of-2.ensures c.in_ok-d.was in
    let p3 = one_more (omega arith) p2 c.next_of-3.ensures c.in_ok-u.was in
    one_stops (omega arith) p3 c.from_residual-in_err-v.result c.next_of-4.ensures c.in_err-v.was c.from_residual-in_err-v.ensures.1

pub returns-in_err-qs0-clause-told : goal.returns-in_err-qs0-clause-told
returns-in_err-qs0-clause-told c =
    let ls = c.args.lengths.now in
    let p = c.args.proof in
    let p1 = one_more (omega arith) (none_passed ls p) c.next_of.ensures c.in_ok-c.was in
    let p2 = one_more (omega arith) p1 c.next_of-2.ensures c.in_ok-d.was in
    let p3 = one_more (omega arith) p2 c.next_of-3.ensures c.in_ok-u.was in
    let p4 = one_more (omega arith) p3 c.next_of-4.ensures c.in_ok-v.was in
    one_stops (omega arith) p4 c.from_residual-in_err-qs0.result c.next_of-5.ensures c.in_err-qs0.was c.from_residual-in_err-qs0.ensures.1

pub returns-in_err-qs1-clause-told : goal.returns-in_err-qs1-clause-told
returns-in_err-qs1-clause-told c =
    let ls = c.args.lengths.now in
    let p = c.args.proof in
    let p1 = one_more (omega arith) (none_passed ls p) c.next_of.ensures c.in_ok-c.was in
    let p2 = one_more (omega arith) p1 c.next_of-2.ensures c.in_ok-d.was in
    let p3 = one_more (omega arith) p2 c.next_of-3.ensures c.in_ok-u.was in
    let p4 = one_more (omega arith) p3 c.next_of-4.ensures c.in_ok-v.was in
    let p5 = one_more (omega arith) p4 c.next_of-5.ensures c.in_ok-qs0.was in
    one_stops (omega arith) p5 c.from_residual-in_err-qs1.result c.next_of-6.ensures c.in_err-qs1.was c.from_residual-in_err-qs1.ensures.1

pub returns-in_err-ask-clause-told : goal.returns-in_err-ask-clause-told
returns-in_err-ask-clause-told c =
    let ls = c.args.lengths.now in
    let p = c.args.proof in
    let p1 = one_more (omega arith) (none_passed ls p) c.next_of.ensures c.in_ok-c.was in
    let p2 = one_more (omega arith) p1 c.next_of-2.ensures c.in_ok-d.was in
    let p3 = one_more (omega arith) p2 c.next_of-3.ensures c.in_ok-u.was in
    let p4 = one_more (omega arith) p3 c.next_of-4.ensures c.in_ok-v.was in
    let p5 = one_more (omega arith) p4 c.next_of-5.ensures c.in_ok-qs0.was in
    let p6 = one_more (omega arith) p5 c.next_of-6.ensures c.in_ok-qs1.was in
    let q = c.from_residual-in_err-ask in
    same_first 12 0 [] (sym (all_passed (omega arith) p6)) (exit q.result c.in_err-ask.was q.ensures.1 ∙ c.ask.ensures)

pub returns-clause-told : goal.returns-clause-told
returns-clause-told c =
    let ls = c.args.lengths.now in
    let p = c.args.proof in
    let p1 = one_more (omega arith) (none_passed ls p) c.next_of.ensures c.in_ok-c.was in
    let p2 = one_more (omega arith) p1 c.next_of-2.ensures c.in_ok-d.was in
    let p3 = one_more (omega arith) p2 c.next_of-3.ensures c.in_ok-u.was in
    let p4 = one_more (omega arith) p3 c.next_of-4.ensures c.in_ok-v.was in
    let p5 = one_more (omega arith) p4 c.next_of-5.ensures c.in_ok-qs0.was in
    let p6 = one_more (omega arith) p5 c.next_of-6.ensures c.in_ok-qs1.was in
    same_first 12 0 [] (sym (all_passed (omega arith) p6)) c.in_ok-ask.ensures

pub returns-clause-sections : goal.returns-clause-sections
returns-clause-sections c =
    let ls = c.args.lengths.now in
    let p = c.args.proof in
    let p0 = none_passed ls p in
    let p1 = one_more (omega arith) p0 c.next_of.ensures c.in_ok-c.was in
    let p2 = one_more (omega arith) p1 c.next_of-2.ensures c.in_ok-d.was in
    let p3 = one_more (omega arith) p2 c.next_of-3.ensures c.in_ok-u.was in
    let p4 = one_more (omega arith) p3 c.next_of-4.ensures c.in_ok-v.was in
    let p5 = one_more (omega arith) p4 c.next_of-5.ensures c.in_ok-qs0.was in
    let p6 = one_more (omega arith) p5 c.next_of-6.ensures c.in_ok-qs1.was in
    let f = all_passed (omega arith) p6 ∙ said_yes _ 12 0 (sym c.in_ok-ask.ensures) in (
      refl,
      record {
        c_is = one_is (omega arith) p0 c.next_of.ensures c.in_ok-c.was ∙ section-taken ls p.now 0 (omega arith) f;
        d_is = one_is (omega arith) p1 c.next_of-2.ensures c.in_ok-d.was ∙ section-taken ls p.now 1 (omega arith) f;
        u_is = one_is (omega arith) p2 c.next_of-3.ensures c.in_ok-u.was ∙ section-taken ls p.now 2 (omega arith) f;
        v_is = one_is (omega arith) p3 c.next_of-4.ensures c.in_ok-v.was ∙ section-taken ls p.now 3 (omega arith) f;
        qs0_is = one_is (omega arith) p4 c.next_of-5.ensures c.in_ok-qs0.was ∙ section-taken ls p.now 4 (omega arith) f;
        qs1_is = one_is (omega arith) p5 c.next_of-6.ensures c.in_ok-qs1.was ∙ section-taken ls p.now 5 (omega arith) f;
      },
    )
