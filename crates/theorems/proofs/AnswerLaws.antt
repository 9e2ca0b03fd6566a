-- When each answer is given: the first question that gets a no refuses, and nothing else does.
-- Assumes nothing.
use mathlib.Core.Path.{◌≡◌, refl, sym, ap, ap₂, ◌∙◌}
use mathlib.Core.Bool.{Bool, true, false, ◌&&◌, false≢true, true≢false}
use mathlib.Core.List.{List, [], ◌∷◌, ◌++◌}
use Prim.Native.Nat.{ℕ, zero, suc, ◌+◌, ◌*◌, ◌≤◌, ◌<◌}
use native.Mathlib.Omega.{arith}
use Rattle.algebra.proofs.CountLaws.{and_left, and_right}
use Rattle.protocol.specs.Shape.{Shape}
use Rattle.protocol.specs.Answers.{Answer, accepted, refused, number_of, place_of, word, is_accepted, Question, ask, all_yes, Published, taken, header-short, size_out_of_range, key-length, key-spare-bit, challenge-length, hash-spare-bit, leaf-length, leaf-spare-bit, witness-form, output_length, equation_fails, proof-length, proof-spare-bit, inconsistent, product-differs, degree_unserved, challenge_element, proof_element}
use Rattle.theorems.specs.Statements.{FirstNo, AskRefuses, AskFirstNo, AskAccepts, WordInjective}
use Rattle.theorems.proofs.TestLaws.{both_true}

pub ask-none : ask [] ≡ accepted
unfolding ask
ask-none = refl

pub ask_no : (x : Question) (qs : List Question) → x.yes? ≡ false → ask (x ∷ qs) ≡ refused x.number x.place
unfolding ask
ask_no x qs h = rw (ask, h)

pub ask_yes : (x : Question) (qs : List Question) → x.yes? ≡ true → ask (x ∷ qs) ≡ ask qs
unfolding ask
ask_yes x qs h = rw (ask, h)

abbrev pub Yes : List Question → Type 0
Yes [] = Unit {0}
Yes (x ∷ qs) = (x.yes? ≡ true) × Yes qs

pub all_yes_lem : (qs : List Question) → all_yes qs ≡ true → Yes qs
all_yes_lem [] h = tt
all_yes_lem (x ∷ qs) h = (and_left x.yes? (all_yes qs) h, all_yes_lem qs (and_right x.yes? (all_yes qs) h))

pub yes_all : (qs : List Question) → Yes qs → all_yes qs ≡ true
yes_all [] h = refl
yes_all (x ∷ qs) h = both_true x.yes? (all_yes qs) h.0 (yes_all qs h.1)

pub accepted-all : (qs : List Question) → is_accepted (ask qs) ≡ all_yes qs
unfolding ask
accepted-all [] = refl
accepted-all (x ∷ qs) = go x.yes? (accepted-all qs)
  where
    go : (b : Bool) → is_accepted (ask qs) ≡ all_yes qs → is_accepted (elim b [ true ↦ ask qs | false ↦ refused x.number x.place ]) ≡ (b && all_yes qs)
    go true ih = ih
    go false ih = refl

pub accepted_of : (a : Answer) → is_accepted a ≡ true → a ≡ accepted
accepted_of accepted h = refl
accepted_of (refused i p) h = absurd (false≢true h)

pub ask-accepts : AskAccepts
ask-accepts qs = (λ h. sym (accepted-all qs) ∙ ap is_accepted h, λ h. accepted_of (ask qs) (accepted-all qs ∙ h))

pub ask-after : (before qs : List Question) → all_yes before ≡ true → ask (before ++ qs) ≡ ask qs
ask-after [] qs h = refl
ask-after (x ∷ before) qs h = go x.yes? refl h (ask-after before qs)
  where
    go : (b : Bool) → x.yes? ≡ b → (b && all_yes before) ≡ true → (all_yes before ≡ true → ask (before ++ qs) ≡ ask qs) → ask (x ∷ (before ++ qs)) ≡ ask qs
    go true e k ih = ask_yes x (before ++ qs) e ∙ ih k
    go false e k ih = absurd (false≢true k)

pub ask_first_no : AskFirstNo
ask_first_no before x after h n = ask-after before (x ∷ after) h ∙ ask_no x after n

pub ask_refuses : AskRefuses
ask_refuses [] i p h = absurd (true≢false (ap is_accepted (sym ask-none ∙ h)))
ask_refuses (x ∷ qs) i p h = go x.yes? refl (ask_refuses qs i p)
  where
    further : x.yes? ≡ true → FirstNo qs i p → FirstNo (x ∷ qs) i p
    further e (before, y, after, q, b, n, j, k) = (x ∷ before, y, after, ap (λ r. x ∷ r) q, both_true x.yes? (all_yes before) e b, n, j, k)

    go : (b : Bool) → x.yes? ≡ b → (ask qs ≡ refused i p → FirstNo qs i p) → FirstNo (x ∷ qs) i p
    go true e ih = further e (ih (sym (ask_yes x qs e) ∙ h))
    go false e ih =
        let r : refused x.number x.place ≡ refused i p = sym (ask_no x qs e) ∙ h in
        ([], x, qs, refl, refl, e, ap number_of r, ap place_of r)

-- ---- the published list

-- where the answer r is the refusal of a question of the list, r is published
abbrev pub Listed : Shape → Answer → List Question → Type 0
Listed s r [] = Unit {0}
Listed s r (x ∷ qs) = (x.yes? ≡ false → r ≡ refused x.number x.place → Published s r) × Listed s r qs

pub published_ask : (s : Shape) (r : Answer) (qs : List Question) → Listed s r qs → r ≡ ask qs → Published s r
published_ask s r [] l h = rw (h, ask-none) taken
published_ask s r (x ∷ qs) l h = go x.yes? refl (published_ask s r qs l.1)
  where
    go : (b : Bool) → x.yes? ≡ b → (r ≡ ask qs → Published s r) → Published s r
    go true e ih = ih (h ∙ ask_yes x qs e)
    go false e ih = l.0 e (h ∙ ask_no x qs e)

-- of a question on form
pub on_form : (s : Shape) (r : Answer) (i : ℕ) (b : Bool) → Published s (refused i 0) → b ≡ false → r ≡ refused i 0 → Published s r
on_form s r i b c e h = rw h c

-- ---- the word

rebuild : ℕ → ℕ → Answer
rebuild zero p = accepted
rebuild (suc i) p = refused (suc i) p

rebuilt : (s : Shape) (a : Answer) → Published s a → rebuild (number_of a) (place_of a) ≡ a
unfolding rebuild
rebuilt s a taken = refl
rebuilt s a header-short = refl
rebuilt s a size_out_of_range = refl
rebuilt s a key-length = refl
rebuilt s a key-spare-bit = refl
rebuilt s a challenge-length = refl
rebuilt s a hash-spare-bit = refl
rebuilt s a leaf-length = refl
rebuilt s a leaf-spare-bit = refl
rebuilt s a witness-form = refl
rebuilt s a output_length = refl
rebuilt s a (equation_fails i l) = refl
rebuilt s a proof-length = refl
rebuilt s a proof-spare-bit = refl
rebuilt s a (inconsistent e l) = refl
rebuilt s a (product-differs e l) = refl
rebuilt s a degree_unserved = refl
rebuilt s a challenge_element = refl
rebuilt s a proof_element = refl

pub place_lt : (s : Shape) → s.m ≤ 65536 → s.τ ≤ 65536 → (a : Answer) → Published s a → place_of a < 65536
place_lt s hm hτ a taken = omega arith
place_lt s hm hτ a header-short = omega arith
place_lt s hm hτ a size_out_of_range = omega arith
place_lt s hm hτ a key-length = omega arith
place_lt s hm hτ a key-spare-bit = omega arith
place_lt s hm hτ a challenge-length = omega arith
place_lt s hm hτ a hash-spare-bit = omega arith
place_lt s hm hτ a leaf-length = omega arith
place_lt s hm hτ a leaf-spare-bit = omega arith
place_lt s hm hτ a witness-form = omega arith
place_lt s hm hτ a output_length = omega arith
place_lt s hm hτ a (equation_fails i l) = omega arith
place_lt s hm hτ a proof-length = omega arith
place_lt s hm hτ a proof-spare-bit = omega arith
place_lt s hm hτ a (inconsistent e l) = omega arith
place_lt s hm hτ a (product-differs e l) = omega arith
place_lt s hm hτ a degree_unserved = omega arith
place_lt s hm hτ a challenge_element = omega arith
place_lt s hm hτ a proof_element = omega arith

-- the word of a refusal tells its number and place
pub word-tells : (s : Shape) (a : Answer) → Published s a → place_of a < 65536 → (i p : ℕ) → p < 65536 → suc i * 65536 + p ≡ word a → a ≡ refused (suc i) p
unfolding word rebuild
word-tells s a pa la i p l h =
    let n : number_of a ≡ suc i = omega arith in
    let k : place_of a ≡ p = omega arith in
    sym (rebuilt s a pa) ∙ ap₂ rebuild n k

pub word_injective : WordInjective
unfolding word
word_injective s hm hτ a b pa pb h =
    let la : place_of a < 65536 = place_lt s hm hτ a pa in
    let lb : place_of b < 65536 = place_lt s hm hτ b pb in
    let i : number_of a ≡ number_of b = omega arith in
    let p : place_of a ≡ place_of b = omega arith in
    sym (rebuilt s a pa) ∙ ap₂ rebuild i p ∙ rebuilt s b pb
