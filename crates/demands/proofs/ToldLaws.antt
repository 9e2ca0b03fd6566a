-- What the number that C receives tells of the answer: whether it accepts, its number and its place.
-- Assumes nothing.
use mathlib.Core.Path.{◌≡◌, refl, sym, ap, ◌∙◌, subst}
use mathlib.Core.Logic.{inl, inr, ◌↔◌, ◌≢◌}
use mathlib.Core.Bool.{Bool, true, false, true≢false}
use mathlib.Core.List.{List, ◌∷◌}
use Prim.Native.Nat.{ℕ, suc, ◌+◌, ◌*◌, ◌<◌}
use native.Mathlib.Omega.{arith}
use Rattle.protocol.specs.Alphabet.{Alphabet}
use Rattle.protocol.specs.Shape.{Shape, limits}
use Rattle.protocol.specs.Answers.{Answer, accepted, refused, place_of, word, is_accepted, written, Question, question, ask, Published, taken, header-short, size_out_of_range, key-length, key-spare-bit, challenge-length, hash-spare-bit, leaf-length, leaf-spare-bit, witness-form, output_length, equation_fails, proof-length, proof-spare-bit, inconsistent, product-differs, degree_unserved, challenge_element, proof_element}
use Rattle.protocol.specs.Questions.{q2}
use Rattle.theorems.proofs.AnswerLaws.{ask_no, ask_yes, ask-accepts, ask_refuses, place_lt, word-tells}
use Rattle.theorems.proofs.LimitLaws.{bounds_of}
use Rattle.demands.specs.Demands.{Asked}

pub word-accepted : word accepted ≡ 0
unfolding word
word-accepted = refl

-- no refusal of the list has the word 0
pub only-accepted : (s : Shape) (a : Answer) → Published s a → word a ≡ 0 → a ≡ accepted
unfolding word
only-accepted s accepted taken h = refl
only-accepted s (refused i p) header-short h = absurd (omega (arith, h))
only-accepted s (refused i p) size_out_of_range h = absurd (omega (arith, h))
only-accepted s (refused i p) key-length h = absurd (omega (arith, h))
only-accepted s (refused i p) key-spare-bit h = absurd (omega (arith, h))
only-accepted s (refused i p) challenge-length h = absurd (omega (arith, h))
only-accepted s (refused i p) hash-spare-bit h = absurd (omega (arith, h))
only-accepted s (refused i p) leaf-length h = absurd (omega (arith, h))
only-accepted s (refused i p) leaf-spare-bit h = absurd (omega (arith, h))
only-accepted s (refused i p) witness-form h = absurd (omega (arith, h))
only-accepted s (refused i p) output_length h = absurd (omega (arith, h))
only-accepted s (refused i p) (equation_fails e l) h = absurd (omega (arith, h))
only-accepted s (refused i p) proof-length h = absurd (omega (arith, h))
only-accepted s (refused i p) proof-spare-bit h = absurd (omega (arith, h))
only-accepted s (refused i p) (inconsistent e l) h = absurd (omega (arith, h))
only-accepted s (refused i p) (product-differs e l) h = absurd (omega (arith, h))
only-accepted s (refused i p) degree_unserved h = absurd (omega (arith, h))
only-accepted s (refused i p) challenge_element h = absurd (omega (arith, h))
only-accepted s (refused i p) proof_element h = absurd (omega (arith, h))

-- a number that is not 0 is a refusal
pub not-zero : (s : Shape) (a : Answer) (r : ℕ) (F : Type 0) → Published s a → r ≡ word a → (a ≢ accepted) ↔ F → (r ≢ 0) ↔ F
not-zero s a r F p w i = (λ n. i.0 (λ e. n (w ∙ ap word e ∙ word-accepted)), λ f z. i.1 f (only-accepted s a p (sym w ∙ z)))

-- ---- the output

pub kept : (a : Answer) (before after string : List ℕ) → after ≡ written a before string → word a ≢ 0 → after ≡ before
kept accepted before after string e n = absurd (n word-accepted)
kept (refused i p) before after string e n = e

pub wrote : (s : Shape) (a : Answer) (before after string : List ℕ) → Published s a → 0 ≡ word a → after ≡ written a before string → after ≡ string
wrote s a before after string p z e = e ∙ ap (λ b. written b before string) (only-accepted s a p (sym z))

-- ---- number and place, of a call that first asks for the degree, for the key's header and for its sizes, as each does

module _ (A : Alphabet) (s : Shape) (d b : Bool) (qs : List Question) (listed : Published s (ask (question d 16 0 ∷ question b 1 0 ∷ q2 A s ∷ qs))) where
  abbrev a : Answer
  a = ask (question d 16 0 ∷ question b 1 0 ∷ q2 A s ∷ qs)

  -- a place fits: with sizes out of range none is named
  place-fits : place_of a < 65536
  place-fits = go d b (limits s) refl refl refl
    where
      none : (i : ℕ) → a ≡ refused i 0 → place_of a < 65536
      none i h = rw h (omega arith)

      rest : List Question
      rest = q2 A s ∷ qs

      go : (x y z : Bool) → d ≡ x → b ≡ y → limits s ≡ z → place_of a < 65536
      go false y z h e f = none 16 (ask_no (question d 16 0) (question b 1 0 ∷ rest) h)
      go true false z h e f = none 1 (ask_yes (question d 16 0) (question b 1 0 ∷ rest) h ∙ ask_no (question b 1 0) rest e)
      go true true false h e f = none 2 (ask_yes (question d 16 0) (question b 1 0 ∷ rest) h ∙ ask_yes (question b 1 0) rest e ∙ ask_no (q2 A s) qs f)
      go true true true h e f = let k = bounds_of s f in place_lt s (omega (arith, k.m≤)) (omega (arith, k.τ≤)) a listed

  -- taken or refused, as the questions say
  pub asked_told : (r : ℕ) → r ≡ word a → Asked (question d 16 0 ∷ question b 1 0 ∷ q2 A s ∷ qs) r
  unfolding word
  asked_told r w = go a refl
    where
      go : (c : Answer) → a ≡ c → Asked (question d 16 0 ∷ question b 1 0 ∷ q2 A s ∷ qs) r
      go accepted e = inl (w ∙ ap word e ∙ word-accepted, (ask-accepts (question d 16 0 ∷ question b 1 0 ∷ q2 A s ∷ qs)).0 e)
      go (refused i p) e =
          let q : p < 65536 = subst (λ (c : Answer). place_of c < 65536) e place-fits in
          let n : r ≢ 0 = λ z. true≢false (ap is_accepted (sym (only-accepted s a listed (sym w ∙ z)) ∙ e)) in
          inr (n, i, p, q, w ∙ ap word e, ask_refuses (question d 16 0 ∷ question b 1 0 ∷ q2 A s ∷ qs) i p e)

  pub refusal_told : (i p : ℕ) → p < 65536 → suc i * 65536 + p ≡ word a → a ≡ refused (suc i) p
  refusal_told i p l h = word-tells s a listed place-fits i p l h
