-- `verifier::ask_checks` meets its contract: the space begins with the table of the W_e. The answer to 14, and where
-- that is accepted, the answer to 15.
-- Assumes nothing.
use Prim.Native.Nat.{ℕ, ◌*◌}
use mathlib.Core.Path.{sym, ap, ◌∙◌}
use native.Mathlib.Omega.{arith}
use lib.ListN.{length}
use Rattle.protocol.specs.Shape.{w_of}
use Rattle.lanes.specs.Lanes.{lanes}
use Rattle.format.specs.Sizes.{setting_for, alphabet_for, shape_for}
use Rattle.format.proofs.AskLaws.{passed, left}
use Rattle.format.proofs.FirstLaws.{first_small}
use Rattle.format.proofs.SizeLaws.{in-limits, w_most}
use Rattle.sections.proofs.Writes.{take-length}
use Rattle.questions_proof.proofs.ProofLaws.{section-lengths}
use Rattle.verifier.proofs.GivenLaws.{sent_elements, challenge_lt, loaded, opened-long, opened-narrow}
use Rattle.verifier.proofs.ask_checks.Goals as goal

pub load_opened-requires : goal.load_opened-requires
load_opened-requires c =
    let shape = shape_for c.args.s in
    let facts = c.requires.verify_facts.0 in
    rw (c.leaf_bytes-w.ensures, c.degree_of.ensures.0) (
      take-length (8 * w_of (alphabet_for c.args.s) shape * lanes) c.args.space.now c.requires.space_room.0,
      opened-long (alphabet_for c.args.s) shape c.args.opened.now facts.of_opened,
      facts.of_challenge,
      c.requires.verify_facts.1.c_is.1 ∙ (section-lengths (alphabet_for c.args.s) shape).c_length,
      (in-limits shape facts.of-key.in-range).τ_most,
      omega (arith, w_most (setting_for c.args.s) shape facts.of-key.in-range),
      (alphabet_for c.args.s).K.degree≤8,
      (λ e h. challenge_lt (alphabet_for c.args.s) c.args.delta.now facts.of_elements e),
    )

pub slice_bounds-check_consistency-end-2 : goal.slice_bounds-check_consistency-end-2
slice_bounds-check_consistency-end-2 c =
    let a = c.args in
    let A = alphabet_for a.s in
    let shape = shape_for a.s in
    let facts = c.requires.verify_facts.0 in
    let l = loaded A shape a.delta.now a.opened.now a.proof.bytes.now a.space.now c.load_opened.new.table _ _ _ c.leaf_bytes-w.ensures c.degree_of.ensures.0 c.requires.verify_facts.1.c_is.0 (in-limits shape facts.of-key.in-range).τ_most c.requires.space_room.0 c.load_opened.auto.table c.load_opened.ensures in
    sym (ap length l.front ∙ l.table-length)

pub check_consistency-inconsistent-requires : goal.check_consistency-inconsistent-requires
check_consistency-inconsistent-requires c =
    let a = c.args in
    let A = alphabet_for a.s in
    let shape = shape_for a.s in
    let facts = c.requires.verify_facts.0 in
    let l = loaded A shape a.delta.now a.opened.now a.proof.bytes.now a.space.now c.load_opened.new.table _ _ _ c.leaf_bytes-w.ensures c.degree_of.ensures.0 c.requires.verify_facts.1.c_is.0 (in-limits shape facts.of-key.in-range).τ_most c.requires.space_room.0 c.load_opened.auto.table c.load_opened.ensures in
    record {
      s_value = (facts.of-key.in-range, facts.of_hash, c.requires.verify_facts.1, facts.of_challenge);
      table_len = ap length l.front ∙ l.table-length ∙ ap (λ (w : ℕ). 8 * w * lanes) c.leaf_bytes-w.ensures;
      delta_value = (facts.of_elements, (sent_elements A shape _ facts.proof-elements).0);
    }

pub answer-requires : goal.answer-requires
answer-requires c =
    let a = c.args in
    let A = alphabet_for a.s in
    let shape = shape_for a.s in
    let facts = c.requires.verify_facts.0 in
    let l = loaded A shape a.delta.now a.opened.now a.proof.bytes.now a.space.now c.load_opened.new.table _ _ _ c.leaf_bytes-w.ensures c.degree_of.ensures.0 c.requires.verify_facts.1.c_is.0 (in-limits shape facts.of-key.in-range).τ_most c.requires.space_room.0 c.load_opened.auto.table c.load_opened.ensures in
    first_small shape.τ _ _ (omega (arith, (in-limits shape facts.of-key.in-range).τ_most)) (c.check_consistency-inconsistent.ensures a.opened.now (rw l.front l.table_opened))

pub returns-in_err-answer : goal.returns-in_err-answer
returns-in_err-answer c =
    let a = c.args in
    let A = alphabet_for a.s in
    let shape = shape_for a.s in
    let facts = c.requires.verify_facts.0 in
    let l = loaded A shape a.delta.now a.opened.now a.proof.bytes.now a.space.now c.load_opened.new.table _ _ _ c.leaf_bytes-w.ensures c.degree_of.ensures.0 c.requires.verify_facts.1.c_is.0 (in-limits shape facts.of-key.in-range).τ_most c.requires.space_room.0 c.load_opened.auto.table c.load_opened.ensures in
    let q = c.from_residual in
    left _ _ q.result (c.answer.ensures shape.τ _ (c.check_consistency-inconsistent.ensures a.opened.now (rw l.front l.table_opened))) c.in_err-answer.was q.ensures.1

pub check_product-differing-requires : goal.check_product-differing-requires
check_product-differing-requires c =
    let a = c.args in
    let A = alphabet_for a.s in
    let shape = shape_for a.s in
    let facts = c.requires.verify_facts.0 in
    let l = loaded A shape a.delta.now a.opened.now a.proof.bytes.now a.space.now c.load_opened.new.table _ _ _ c.leaf_bytes-w.ensures c.degree_of.ensures.0 c.requires.verify_facts.1.c_is.0 (in-limits shape facts.of-key.in-range).τ_most c.requires.space_room.0 c.load_opened.auto.table c.load_opened.ensures in
    let long = l.whole in
    record {
      key_facts = (facts.of-key, c.requires.verify_facts.1, facts.of_challenge);
      batching_len = (facts.of_batching, (omega (arith, long, c.requires.space_room.0), omega (arith, long, c.requires.space_room.1)));
      delta_value = (
        facts.of_elements,
        facts.χ_elements,
        (sent_elements A shape _ facts.proof-elements).1,
        opened-narrow (setting_for a.s) shape a.delta.now a.opened.now a.proof.bytes.now _ l.space-opened facts.of_elements,
      );
    }

pub answer-requires-2 : goal.answer-requires-2
answer-requires-2 c =
    let a = c.args in
    let A = alphabet_for a.s in
    let shape = shape_for a.s in
    let facts = c.requires.verify_facts.0 in
    let l = loaded A shape a.delta.now a.opened.now a.proof.bytes.now a.space.now c.load_opened.new.table _ _ _ c.leaf_bytes-w.ensures c.degree_of.ensures.0 c.requires.verify_facts.1.c_is.0 (in-limits shape facts.of-key.in-range).τ_most c.requires.space_room.0 c.load_opened.auto.table c.load_opened.ensures in
    first_small shape.τ _ _ (omega (arith, (in-limits shape facts.of-key.in-range).τ_most)) (c.check_product-differing.ensures a.opened.now l.space-opened)

pub returns : goal.returns
returns c =
    let a = c.args in
    let A = alphabet_for a.s in
    let shape = shape_for a.s in
    let facts = c.requires.verify_facts.0 in
    let l = loaded A shape a.delta.now a.opened.now a.proof.bytes.now a.space.now c.load_opened.new.table _ _ _ c.leaf_bytes-w.ensures c.degree_of.ensures.0 c.requires.verify_facts.1.c_is.0 (in-limits shape facts.of-key.in-range).τ_most c.requires.space_room.0 c.load_opened.auto.table c.load_opened.ensures in
    passed _ _ (c.answer.ensures shape.τ _ (c.check_consistency-inconsistent.ensures a.opened.now (rw l.front l.table_opened))) c.in_ok-answer.was
    (c.answer-2.ensures shape.τ _ (c.check_product-differing.ensures a.opened.now l.space-opened))
