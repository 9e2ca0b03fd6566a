-- `questions::inputs::leaves_form` meets its contract: the one question, and then the other.
-- Assumes nothing.
use mathlib.Core.Path.{sym, ap, ◌∙◌}
use Prim.Native.Nat.{◌*◌}
use native.Mathlib.Omega.{arith}
use lib.Dec.{eqb}
use lib.ListN.{length}
use Rattle.protocol.specs.Strings.{bytes_for}
use Rattle.protocol.specs.Key.{rows_spare}
use Rattle.protocol.specs.Shape.{w_of}
use Rattle.protocol.specs.Questions.{leaves_exact, leaves_spare}
use Rattle.theorems.proofs.TestLaws.{eqb_eq}
use Rattle.format.specs.Sizes.{setting_for, alphabet_for, shape_for}
use Rattle.rows.proofs.SpareLaws.{rows_are}
use Rattle.format.proofs.SizeLaws.{l_most, trees_most}
use Rattle.format.proofs.AskLaws.{said_yes, same_first, passed, left}
use Rattle.questions.proofs.inputs.leaves_form.Goals as goal

pub returns-in_err-ask : goal.returns-in_err-ask
unfolding leaves_exact
returns-in_err-ask c =
    let q = c.from_residual in
    left _ _ q.result (same_first 7 0 _ (ap (eqb (length c.args.leaves.now)) c.leaves_bytes.ensures) c.ask.ensures) c.in_err-ask.was q.ensures.1

pub overflow_mul-s : goal.overflow_mul-s
overflow_mul-s c =
    omega (arith, trees_most (shape_for c.args.s) c.requires.0 c.args.per c.requires.1)

pub rows_spare-spare-requires : goal.rows_spare-spare-requires
unfolding w_of
rows_spare-spare-requires c =
    let S = shape_for c.args.s in (
      eqb_eq _ _ (said_yes _ 7 0 (sym c.in_ok-ask.ensures)) ∙ c.leaves_bytes.ensures ∙ ap (λ k. S.τ * c.args.per * bytes_for k) (sym c.leaf_bits.ensures),
      omega (arith, l_most (setting_for c.args.s) S c.requires.0),
    )

pub returns : goal.returns
unfolding leaves_spare leaves_exact
returns c =
    let a = c.args in
    let spare = rows_are (setting_for a.s) _ _ _ c.rows_spare-spare.ensures ∙ ap (λ k. rows_spare (alphabet_for a.s) k (a.s.tau * a.per) a.leaves.now) c.leaf_bits.ensures in
    passed _ _ (same_first 7 0 _ (ap (eqb (length a.leaves.now)) c.leaves_bytes.ensures) c.ask.ensures) c.in_ok-ask.was (same_first 8 0 _ spare c.ask-2.ensures)
