-- Every definition that an example computes through.
--   computing == names nothing: a declaration that says `unfolding computing` computes with all of them
-- Assumes nothing.
use Prim.Native.Nat.{ℕ}
use Rattle.algebra.specs.BitField.{computing as bits}
use Rattle.algebra.specs.Sum.{form, power}
use Rattle.protocol.specs.Lists.{table, concat, all_below, first_not, part, block_at}
use Rattle.protocol.specs.Strings.{bytes_for, bit, spare_zero, from_bits, pack}
use Rattle.protocol.specs.Frames.{num2, num4, count4, frame, framed, section_no, framed_length}
use Rattle.galois.specs.Degrees.{field_of}
use Rattle.protocol.specs.Alphabet.{sym, elem_at, elements_in}
use Rattle.protocol.specs.Setting.{served}
use Rattle.protocol.specs.Shape.{within, limits, per_tree, per_opened, mask_at, k_of, l_of, w_of}
use Rattle.protocol.specs.Key.{rows_spare, key_lengths, key_exact, section_a, section_b, section_y, key_spare, a_sym, b_sym, y_sym}
use Rattle.protocol.specs.Sections.{bytes_of, commit_lengths, hash_lengths, batch_lengths, lengths}
use Rattle.protocol.specs.Leaves.{leaf_at, except, rising, open_tree, open_leaves, place, opened_leaf}
use Rattle.protocol.specs.Forms.{α, quad, lin, y_of, error, middle, h, hash, mask_of, χAt, batch}
use Rattle.protocol.specs.Prover.{u, v, correction, d_of, a₀, a₁, qs0, qs1, c_section, d_section, ũSection, ṼSection, qs0_section, qs1_section, commit_bytes, hash_bytes, batch_bytes, proof_of}
use Rattle.protocol.specs.Verifier.{correction_at, W, key_at, consistent, product_left, product_holds, consistent_at, product_at, candidate, batched_error}
use Rattle.protocol.specs.Answers.{word, ask}
use Rattle.protocol.specs.Questions.{h_exact, χExact, ΔExact, h_spare, leaves_exact, leaves_spare, witness_form, solves, proof_spare, proof_elements, tree_of, consistent_in, product_in}
use Rattle.protocol.specs.Calls.{test_answer, commit_answer, hash_answer, batch_answer, prove_answer, verify_answer, test_form, commit_form, batch_form, prove_form, verify_form, honest_form, well_formed}
use Rattle.protocol.specs.Counting.{opening, accepted_count, checks_at, factor}

unfoldable pub computing : ℕ
unfolding bits field_of form power table concat all_below first_not part block_at bytes_for bit spare_zero from_bits pack num2 num4 count4 frame framed section_no framed_length sym elem_at elements_in served within limits per_tree per_opened mask_at k_of l_of w_of rows_spare key_lengths key_exact section_a section_b section_y key_spare a_sym b_sym y_sym bytes_of commit_lengths hash_lengths batch_lengths lengths leaf_at except rising open_tree open_leaves place opened_leaf α quad lin y_of error middle h hash mask_of χAt batch u v correction d_of a₀ a₁ qs0 qs1 c_section d_section ũSection ṼSection qs0_section qs1_section commit_bytes hash_bytes batch_bytes proof_of correction_at W key_at consistent product_left product_holds consistent_at product_at candidate batched_error word ask h_exact χExact ΔExact h_spare leaves_exact leaves_spare witness_form solves proof_spare proof_elements tree_of consistent_in product_in test_answer commit_answer hash_answer batch_answer prove_answer verify_answer test_form commit_form batch_form prove_form verify_form honest_form well_formed opening accepted_count checks_at factor
computing = 0
