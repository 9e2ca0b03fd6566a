-- `questions::inputs::witness_form` meets its contract: the one part of its question, and then the other.
-- Assumes nothing.
use mathlib.Core.Path.{◌≡◌, refl, sym, ap, ◌∙◌}
use mathlib.Core.Bool.{◌&&◌}
use mathlib.Core.List.{List, []}
use Prim.Native.Nat.{ℕ}
use native.Mathlib.Omega.{arith}
use lib.Dec.{eqb}
use lib.ListN.{length}
use Rattle.protocol.specs.Strings.{bytes_for, spare_zero}
use Rattle.protocol.specs.Questions.{witness_form}
use Rattle.theorems.proofs.TestLaws.{eqb_eq}
use Rattle.format.specs.Sizes.{alphabet_for, shape_for}
use Rattle.format.specs.declared.sizes.Sizes.{Sizes}
use Rattle.format.proofs.SizeLaws.{in-limits}
use Rattle.format.proofs.AskLaws.{said_yes, same_first, passed_and, left_and}
use Rattle.questions.proofs.inputs.witness_form.Goals as goal

form_is : (s : Sizes) (x : List ℕ) → (eqb (length x) (bytes_for s.n) && spare_zero x s.n) ≡ witness_form (alphabet_for s) (shape_for s) x
unfolding witness_form
form_is s x = refl

pub returns-in_err-ask : goal.returns-in_err-ask
returns-in_err-ask c =
    let a = c.args in
    let q = c.from_residual in
    same_first 9 0 [] (form_is a.s a.witness.now)
    (left_and _ (spare_zero a.witness.now a.s.n) 9 q.result (same_first 9 0 [] (ap (eqb (length a.witness.now)) c.witness_bytes.ensures) c.ask.ensures) c.in_err-ask.was q.ensures.1)

pub row_spare-requires : goal.row_spare-requires
row_spare-requires c =
    (eqb_eq _ _ (said_yes _ 9 0 (sym c.in_ok-ask.ensures)) ∙ c.witness_bytes.ensures, omega (arith, in-limits (shape_for c.args.s) c.requires))

pub returns : goal.returns
returns c =
    let a = c.args in
    same_first 9 0 [] (form_is a.s a.witness.now)
    (passed_and _ _ 9 (same_first 9 0 [] (ap (eqb (length a.witness.now)) c.witness_bytes.ensures) c.in_ok-ask.ensures) (same_first 9 0 [] c.row_spare.ensures c.ask-2.ensures))
