-- `questions::inputs::hash_matrix_form` meets its contract: the one question, and then the other.
-- Assumes nothing.
use mathlib.Core.Path.{◌≡◌, sym, ap, ◌∙◌}
use Prim.Native.Nat.{◌*◌}
use native.Mathlib.Omega.{arith}
use lib.ListN.{length}
use Rattle.protocol.specs.Strings.{bytes_for}
use Rattle.protocol.specs.Key.{rows_spare}
use Rattle.protocol.specs.Shape.{k_of}
use Rattle.protocol.specs.Questions.{h_exact, h_spare}
use Rattle.theorems.proofs.TestLaws.{eqb_eq}
use Rattle.format.specs.Sizes.{setting_for, alphabet_for, shape_for}
use Rattle.rows.proofs.SpareLaws.{rows_are}
use Rattle.format.proofs.SizeLaws.{k-most}
use Rattle.format.proofs.AskLaws.{said_yes, same_first, passed, left}
use Rattle.questions.proofs.inputs.hash_matrix_form.Goals as goal

pub returns-in_err-ask : goal.returns-in_err-ask
returns-in_err-ask c = left _ _ c.from_residual.result c.ask.ensures c.in_err-ask.was c.from_residual.ensures.1

pub rows_spare-spare-requires : goal.rows_spare-spare-requires
unfolding h_exact
rows_spare-spare-requires c =
    let S = shape_for c.args.s in
    let e : length c.args.hash_matrix.now ≡ S.t * bytes_for (k_of (alphabet_for c.args.s) S) = eqb_eq _ _ (c.requires.1 (said_yes _ 5 0 (sym c.in_ok-ask.ensures))) in
    (e ∙ ap (λ k. S.t * bytes_for k) (sym c.hashed_bits.ensures), omega (arith, k-most (setting_for c.args.s) S c.requires.0))

pub returns : goal.returns
unfolding h_spare
returns c =
    let a = c.args in
    let spare = rows_are (setting_for a.s) _ _ _ c.rows_spare-spare.ensures ∙ ap (λ k. rows_spare (alphabet_for a.s) k a.s.t a.hash_matrix.now) c.hashed_bits.ensures in
    passed _ _ c.ask.ensures c.in_ok-ask.was (same_first 6 0 _ spare c.ask-2.ensures)
