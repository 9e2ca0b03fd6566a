-- How answers are put together: a question that gets a no, one that gets a yes, and questions after questions.
-- Assumes nothing.
use mathlib.Core.Path.{◌≡◌, refl, sym, ap, ◌∙◌}
use mathlib.Core.Bool.{Bool, true, false, not, ◌&&◌, false≢true}
use mathlib.Core.List.{List, [], ◌∷◌, ◌++◌}
use Prim.Native.Nat.{ℕ}
use borrow.Author.Tests.{not-true, not-false}
use Rattle.algebra.proofs.CountLaws.{and_left}
use Rattle.protocol.specs.Answers.{Answer, accepted, refused, is_accepted, Question, question, ask}
use Rattle.theorems.proofs.AnswerLaws.{ask-none, ask_no, ask_yes, ask-accepts}
use Rattle.std.specs.Prelude.{Result, Ok, Err}
use Rattle.std.specs.Result.{IsErrAnd}
use Rattle.std.proofs.lemmas.Result.{err_from_is_err_and}
use Rattle.format.specs.Verdict.{answer_of, and_then, told}
use Rattle.format.specs.declared.Refusal.{Refusal}
use Rattle.format.specs.declared.Verdict.{Verdict}
use Rattle.format.specs.declared.Verdict.TheVariants.{Accepted, Refused}

-- ---- one question

-- of a result that the code tests, and the test that it stands for
pub no_of : {t b : Bool} → t ≡ b → not t ≡ true → b ≡ false
no_of {t} e h = sym e ∙ not-true t h

pub yes_of : {t b : Bool} → t ≡ b → not t ≡ false → b ≡ true
yes_of {t} e h = sym e ∙ not-false t h

pub says_no : (b : Bool) (i p : ℕ) (qs : List Question) {r : Answer} → b ≡ false → r ≡ refused i p → r ≡ ask (question b i p ∷ qs)
says_no b i p qs h e = e ∙ sym (ask_no (question b i p) qs h)

pub says_yes : (b : Bool) (i p : ℕ) (qs : List Question) {r : Answer} → b ≡ true → r ≡ ask qs → r ≡ ask (question b i p ∷ qs)
says_yes b i p qs h e = e ∙ sym (ask_yes (question b i p) qs h)

pub said_yes : (b : Bool) (i p : ℕ) → ask (question b i p ∷ []) ≡ accepted → b ≡ true
said_yes b i p h = and_left b true ((ask-accepts (question b i p ∷ [])).0 h)

pub says_all : accepted ≡ ask []
says_all = sym ask-none

pub refused-not : {a : Answer} {i p : ℕ} → refused i p ≡ a → a ≡ accepted → ⊥
refused-not e h = false≢true (ap is_accepted (e ∙ h))

pub said_no : (b : Bool) (i p : ℕ) {j q : ℕ} → refused j q ≡ ask (question b i p ∷ []) → b ≡ false
unfolding ask
said_no true i p h = absurd (refused-not h refl)
said_no false i p h = refl

-- ---- questions after questions

pub ask-append : (before after : List Question) → ask (before ++ after) ≡ and_then (ask before) (ask after)
unfolding and_then
ask-append [] after = ap (λ a. and_then a (ask after)) (sym ask-none)
ask-append (x ∷ before) after = go x.yes? refl (ask-append before after)
  where
    go : (b : Bool) → x.yes? ≡ b → ask (before ++ after) ≡ and_then (ask before) (ask after) → ask (x ∷ (before ++ after)) ≡ and_then (ask (x ∷ before)) (ask after)
    go true e ih = ask_yes x (before ++ after) e ∙ ih ∙ ap (λ a. and_then a (ask after)) (sym (ask_yes x before e))
    go false e ih = ask_no x (before ++ after) e ∙ ap (λ a. and_then a (ask after)) (sym (ask_no x before e))

pub then_ask : (before after : List Question) {v r : Answer} → v ≡ ask before → r ≡ and_then v (ask after) → r ≡ ask (before ++ after)
then_ask before after h e = e ∙ ap (λ a. and_then a (ask after)) h ∙ sym (ask-append before after)

-- what a `?` leaves with
pub exit : {T U : Type 0} {v : Result T Refusal} {f : Refusal} (r : Result U Refusal) → v ≡ Err f → IsErrAnd r (λ y. y ≡ f) → told r ≡ told v
exit r was is = let p = err_from_is_err_and r is in rw (p.1, p.2, was)

-- where a result is accepted, the questions that follow decide
pub go_on : {T : Type 0} {v : Result T Refusal} {x : T} {r a : Answer} → v ≡ Ok x → r ≡ a → r ≡ and_then (told v) a
unfolding and_then
go_on {a = a} was e = e ∙ ap (λ w. and_then (told w) a) (sym was)

-- where it is a refusal, it stays
pub stop_at : {T U : Type 0} (a : Answer) {v : Result T Refusal} {f : Refusal} (r : Result U Refusal) → v ≡ Err f → IsErrAnd r (λ y. y ≡ f) → told r ≡ and_then (told v) a
unfolding and_then
stop_at a r was is = exit r was is ∙ rw was

-- the same of a verdict
pub go_on_verdict : {v : Verdict} {r x : Answer} → v ≡ Accepted → r ≡ x → r ≡ and_then (answer_of v) x
unfolding and_then
go_on_verdict {x = x} p e = e ∙ ap (λ w. and_then (answer_of w) x) (sym p)

pub stop_at_verdict : (x : Answer) {v : Verdict} {f : Refusal} → v ≡ Refused f → answer_of v ≡ and_then (answer_of v) x
unfolding and_then
stop_at_verdict x p = rw p

-- of lists of questions: those that a `?` has let pass, and those that it leaves with
pub passed : {T : Type 0} (before after : List Question) {v : Result T Refusal} {x : T} {r : Answer} → told v ≡ ask before → v ≡ Ok x → r ≡ ask after → r ≡ ask (before ++ after)
passed before after h was e = then_ask before after h (go_on was e)

pub left : {T U : Type 0} (before after : List Question) {v : Result T Refusal} {f : Refusal} (r : Result U Refusal) → told v ≡ ask before → v ≡ Err f → IsErrAnd r (λ y. y ≡ f) → told r ≡ ask (before ++ after)
left before after r h was is = then_ask before after h (stop_at (ask after) r was is)

-- what a `?` leaves with, where a test that got a no stands before others in one question
pub left_and : {T U : Type 0} (b rest : Bool) (i : ℕ) {v : Result T Refusal} {f : Refusal} (r : Result U Refusal) → told v ≡ ask (question b i 0 ∷ []) → v ≡ Err f → IsErrAnd r (λ y. y ≡ f)
    → told r ≡ ask (question (b && rest) i 0 ∷ [])
unfolding ask
left_and true rest i r h was is = absurd (refused-not (ap told (sym was) ∙ h) refl)
left_and false rest i r h was is = exit r was is ∙ h

pub passed_and : (b c : Bool) (i : ℕ) {r : Answer} → accepted ≡ ask (question b i 0 ∷ []) → r ≡ ask (question c i 0 ∷ []) → r ≡ ask (question (b && c) i 0 ∷ [])
passed_and b c i h e = e ∙ ap (λ d. ask (question (d && c) i 0 ∷ [])) (sym (said_yes b i 0 (sym h)))

-- ---- a question's test in the code's words, and in the definition's

pub same_first : {b c : Bool} (i p : ℕ) (qs : List Question) {r : Answer} → b ≡ c → r ≡ ask (question b i p ∷ qs) → r ≡ ask (question c i p ∷ qs)
same_first i p qs e h = h ∙ ap (λ b. ask (question b i p ∷ qs)) e

pub same_also : {b c : Bool} (i : ℕ) (v : Answer) {r : Answer} → b ≡ c → r ≡ and_then v (ask (question b i 0 ∷ [])) → r ≡ and_then v (ask (question c i 0 ∷ []))
same_also i v e h = h ∙ ap (λ b. and_then v (ask (question b i 0 ∷ []))) e
