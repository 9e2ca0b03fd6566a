-- A call answers 0 or a number of its own questions: `ask` gives no other.
-- Assumes nothing.
use mathlib.Core.Path.{◌≡◌, refl, ap, ◌∙◌}
use mathlib.Core.Bool.{Bool, true, false, ◌||◌}
use mathlib.Core.List.{List, [], ◌∷◌}
use lib.Dec.{eqb}
use Rattle.protocol.specs.Setting.{Setting}
use Rattle.protocol.specs.Answers.{number_of, Question, ask}
use Rattle.protocol.specs.Calls.{test_puts, commit_puts, hash_questions, batch_puts, prove_puts, verify_puts, test_answer, commit_answer, hash_answer, batch_answer, prove_answer, verify_answer}
use Rattle.protocol.specs.QuestionNumbers.{numbers, among, OwnNumbers}
use Rattle.theorems.proofs.TestLaws.{eqb_same}
use Rattle.theorems.proofs.AnswerLaws.{ask-none, ask_no, ask_yes}

or_insert : (a b c : Bool) → (a || c) ≡ true → (a || (b || c)) ≡ true
or_insert true b c h = refl
or_insert false true c h = refl
or_insert false false c h = h

or-second : (a b c : Bool) → b ≡ true → (a || (b || c)) ≡ true
or-second true b c h = refl
or-second false b c h = ap (λ z. z || c) h

number-among : (qs : List Question) → among (0 ∷ numbers qs) (number_of (ask qs)) ≡ true
number-among [] = ap (λ a. among (0 ∷ []) (number_of a)) ask-none
number-among (x ∷ qs) = go x.yes? refl (number-among qs)
  where
    go : (b : Bool) → x.yes? ≡ b → among (0 ∷ numbers qs) (number_of (ask qs)) ≡ true → among (0 ∷ numbers (x ∷ qs)) (number_of (ask (x ∷ qs))) ≡ true
    go true e ih =
        ap (λ a. among (0 ∷ numbers (x ∷ qs)) (number_of a)) (ask_yes x qs e)
        ∙ or_insert (eqb (number_of (ask qs)) 0) (eqb (number_of (ask qs)) x.number) (among (numbers qs) (number_of (ask qs))) ih
    go false e ih =
        ap (λ a. among (0 ∷ numbers (x ∷ qs)) (number_of a)) (ask_no x qs e)
        ∙ or-second (eqb x.number 0) (eqb x.number x.number) (among (numbers qs) x.number) (eqb_same x.number x.number refl)

pub own-numbers : (g : Setting) → OwnNumbers g
unfolding test_answer commit_answer hash_answer batch_answer prove_answer verify_answer
own-numbers g = record {
  test-own = λ key x. number-among (test_puts g key x);
  commit-own = λ key leaves x out. number-among (commit_puts g key leaves x out);
  hash-own = λ key leaves H' out. number-among (hash_questions g key leaves H' out);
  batch-own = λ key leaves x χ out. number-among (batch_puts g key leaves x χ out);
  prove-own = λ key leaves x H' χ out. number-among (prove_puts g key leaves x H' χ out);
  verify-own = λ key Δ H' χ opened proof. number-among (verify_puts g key Δ H' χ opened proof);
}
