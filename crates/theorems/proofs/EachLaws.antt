-- A question that is asked of every index below a bound, the first that fails being its place: what its refusal says,
-- among questions of other numbers.
--   Without i qs == no question of qs has the number i;  without? == as a Bool
--   each i n holds == the question i, asked of every index below n
-- Assumes nothing.
use mathlib.Core.Path.{◌≡◌, refl, sym, ap, ◌∙◌, subst}
use mathlib.Core.Logic.{◌↔◌, ◌≢◌}
use mathlib.Core.Bool.{Bool, true, false, not, ◌&&◌, false≢true, true≢false}
use mathlib.Core.List.{List, [], ◌∷◌, ◌++◌}
use Prim.Native.Nat.{ℕ}
use lib.Dec.{eqb}
use Rattle.algebra.proofs.CountLaws.{and_left, and_right}
use Rattle.protocol.specs.Lists.{all_below, first_not}
use Rattle.protocol.specs.Answers.{accepted, refused, number_of, place_of, is_accepted, Question, question, ask, all_yes}
use Rattle.theorems.specs.Statements.{FirstFailing}
use Rattle.theorems.proofs.TestLaws.{eqb_same, both_true, first-not, first-before}
use Rattle.theorems.proofs.AnswerLaws.{ask-none, ask_no, ask_yes, ask-after, ask_first_no}

abbrev pub Without : ℕ → List Question → Type 0
Without i [] = Unit {0}
Without i (x ∷ qs) = (x.number ≢ i) × Without i qs

abbrev pub without? : ℕ → List Question → Bool
without? i [] = true
without? i (x ∷ qs) = not (eqb x.number i) && without? i qs

pub without_by : (i : ℕ) (qs : List Question) → without? i qs ≡ true → Without i qs
without_by i [] h = tt
without_by i (x ∷ qs) h =
    (λ e. true≢false (sym (and_left (not (eqb x.number i)) _ h) ∙ ap not (eqb_same x.number i e)), without_by i qs (and_right (not (eqb x.number i)) _ h))

not-given : (i p : ℕ) (qs : List Question) → Without i qs → ask qs ≢ refused i p
not-given i p [] d h = true≢false (ap is_accepted (sym ask-none ∙ h))
not-given i p (x ∷ qs) d h = go x.yes? refl (not-given i p qs d.1)
  where
    go : (b : Bool) → x.yes? ≡ b → ask qs ≢ refused i p → ⊥
    go true e ih = ih (sym (ask_yes x qs e) ∙ h)
    go false e ih = d.0 (ap number_of (sym (ask_no x qs e) ∙ h))

module _ (i n : ℕ) (holds : ℕ → Bool) where
  abbrev pub each : Question
  each = question (all_below n holds) i (first_not n holds)

  pub some-first-fails : all_below n holds ≡ false → FirstFailing n holds (first_not n holds)
  some-first-fails f = let t = first-not n holds f in (t.0, t.1, first-before n holds)

  -- its refusal names the first index that fails, and every question before it got a yes
  pub names_first : (before after : List Question) → Without i before → Without i after → (p : ℕ) → ask (before ++ (each ∷ after)) ≡ refused i p → (all_yes before ≡ true) × FirstFailing n holds p
  names_first [] after d d' p h = (refl, go (all_below n holds) refl)
    where
      go : (b : Bool) → all_below n holds ≡ b → FirstFailing n holds p
      go true e = absurd (not-given i p after d' (sym (ask_yes each after e) ∙ h))
      go false e = subst (FirstFailing n holds) (ap place_of (sym (ask_no each after e) ∙ h)) (some-first-fails e)
  names_first (x ∷ before) after d d' p h = go x.yes? refl (names_first before after d.1 d' p)
    where
      go : (b : Bool) → x.yes? ≡ b → (ask (before ++ (each ∷ after)) ≡ refused i p → (all_yes before ≡ true) × FirstFailing n holds p)
          → ((x.yes? && all_yes before) ≡ true) × FirstFailing n holds p
      go true e ih = let t = ih (sym (ask_yes x (before ++ (each ∷ after)) e) ∙ h) in (both_true x.yes? (all_yes before) e t.0, t.1)
      go false e ih = absurd (d.0 (ap number_of (sym (ask_no x (before ++ (each ∷ after)) e) ∙ h)))

  -- as the last question, the others having got a yes
  module _ (before : List Question) (form : all_yes before ≡ true) where
    pub refused-first : all_below n holds ≡ false → ask (before ++ (each ∷ [])) ≡ refused i (first_not n holds)
    refused-first f = ask_first_no before each [] form f

    pub refused_when : (ask (before ++ (each ∷ [])) ≢ accepted) ↔ (all_below n holds ≡ false)
    refused_when = (to, λ f h. false≢true (ap is_accepted (sym (refused-first f) ∙ h)))
      where
        to : ask (before ++ (each ∷ [])) ≢ accepted → all_below n holds ≡ false
        to h = go (all_below n holds) refl
          where
            go : (b : Bool) → all_below n holds ≡ b → b ≡ false
            go true e = absurd (h (ask-after before (each ∷ []) form ∙ ask_yes each [] e ∙ ask-none))
            go false e = refl
