-- Counts over lists and over all strings of a length.
-- Assumes nothing.
use mathlib.Core.Path.{◌≡◌, refl, sym, ap, ap₂, ◌∙◌}
use mathlib.Core.Logic.{◌⊎◌, inl, inr, ◌≢◌}
use mathlib.Core.Bool.{Bool, true, false, ◌&&◌, ◌||◌, false≢true}
use mathlib.Core.List.{List, [], ◌∷◌, ◌++◌, map}
use Prim.Native.Nat.{ℕ, zero, suc, ◌+◌, ◌*◌, ◌^◌, ◌≤◌, zero-le}
use native.Mathlib.Nat.{zero-mul, one-mul, suc-mul, add-mul, add_comm, pow-zero, pow-succ'}
use native.Mathlib.Omega.{arith}
use lib.ListN.{length, length-append, length-map}
use Rattle.algebra.specs.Count.{indicator, count, pairs, words, same, passes, product}

pub and_left : (a b : Bool) → (a && b) ≡ true → a ≡ true
and_left true b h = refl
and_left false b h = h

pub and_right : (a b : Bool) → (a && b) ≡ true → b ≡ true
and_right true b h = h
and_right false b h = absurd (false≢true h)

indicator-or : (a b : Bool) → indicator (a || b) ≤ indicator a + indicator b
indicator-or true b = omega arith
indicator-or false b = omega arith

indicator_mono : (a b : Bool) → (a ≡ true → b ≡ true) → indicator a ≤ indicator b
indicator_mono true true h = omega arith
indicator_mono true false h = absurd (false≢true (h refl))
indicator_mono false b h = zero-le

module _ {A : Type 0} where
  pub count-append : (p : A → Bool) (xs ys : List A) → count p (xs ++ ys) ≡ count p xs + count p ys
  count-append p [] ys = omega arith
  count-append p (x ∷ xs) ys = omega (arith, count-append p xs ys)

  pub count_congr : (p r : A → Bool) → ((x : A) → p x ≡ r x) → (xs : List A) → count p xs ≡ count r xs
  count_congr p r h [] = refl
  count_congr p r h (x ∷ xs) = rw (h x, count_congr p r h xs)

  pub count-true : (p : A → Bool) → ((x : A) → p x ≡ true) → (xs : List A) → count p xs ≡ length xs
  count-true p h [] = refl
  count-true p h (x ∷ xs) = rw (h x) (omega (arith, count-true p h xs))

  pub count-false : (p : A → Bool) → ((x : A) → p x ≡ false) → (xs : List A) → count p xs ≡ 0
  count-false p h [] = refl
  count-false p h (x ∷ xs) = rw (h x) (omega (arith, count-false p h xs))

  pub count_mono : (p r : A → Bool) → ((x : A) → p x ≡ true → r x ≡ true) → (xs : List A) → count p xs ≤ count r xs
  count_mono p r h [] = zero-le
  count_mono p r h (x ∷ xs) = omega (arith, count_mono p r h xs, indicator_mono (p x) (r x) (h x))

  pub count-or : (p r : A → Bool) (xs : List A) → count (λ x. p x || r x) xs ≤ count p xs + count r xs
  count-or p r [] = zero-le
  count-or p r (x ∷ xs) = omega (arith, count-or p r xs, indicator-or (p x) (r x))

  pub count-and : (b : Bool) (p : A → Bool) (xs : List A) → count (λ x. b && p x) xs ≡ indicator b * count p xs
  count-and true p xs = sym (one-mul (count p xs))
  count-and false p xs = count-false (λ x. false) (λ x. refl) xs ∙ sym (zero-mul (count p xs))

  -- some element of the list passes, or none does
  pub find : (p : A → Bool) (xs : List A) → ((x : A) × (p x ≡ true)) ⊎ (count p xs ≡ 0)
  find p [] = inr refl
  find p (x ∷ xs) = step (p x) refl (find p xs)
    where
      step : (b : Bool) → p x ≡ b → ((y : A) × (p y ≡ true)) ⊎ (count p xs ≡ 0) → ((y : A) × (p y ≡ true)) ⊎ (indicator (p x) + count p xs ≡ 0)
      step true e f = inl (x, e)
      step false e (inl f) = inl f
      step false e (inr f) = inr (rw (e, f))

pub count_map : {A B : Type 0} (p : B → Bool) (f : A → B) (xs : List A) → count p (map f xs) ≡ count (λ x. p (f x)) xs
count_map p f [] = refl
count_map p f (x ∷ xs) = rw (count_map p f xs)

module _ {A : Type 0} where
  -- the tests on the first letter and on the rest are counted apart
  pub count-pairs : (r : List A → Bool) (p : A → Bool) (t : List A → Bool) → ((x : A) (s : List A) → r (x ∷ s) ≡ (p x && t s))
      → (xs : List A) (ss : List (List A)) → count r (pairs xs ss) ≡ count p xs * count t ss
  count-pairs r p t h [] ss = sym (zero-mul (count t ss))
  count-pairs r p t h (x ∷ xs) ss =
      count-append r (map (λ s. x ∷ s) ss) (pairs xs ss)
      ∙ rw (count_map r (λ s. x ∷ s) ss, count_congr (λ s. r (x ∷ s)) (λ s. p x && t s) (h x) ss, count-and (p x) t ss, count-pairs r p t h xs ss, add-mul)

  -- where each first letter leaves c of the rests
  pub count_pairs_const : (r : List A → Bool) (c : ℕ) (xs : List A) (ss : List (List A)) → ((x : A) → count (λ s. r (x ∷ s)) ss ≡ c)
      → count r (pairs xs ss) ≡ length xs * c
  count_pairs_const r c [] ss h = sym (zero-mul c)
  count_pairs_const r c (x ∷ xs) ss h =
      count-append r (map (λ s. x ∷ s) ss) (pairs xs ss)
      ∙ rw (count_map r (λ s. x ∷ s) ss, h x, count_pairs_const r c xs ss h, suc-mul, add_comm)

  pub length_pairs : (xs : List A) (ss : List (List A)) → length (pairs xs ss) ≡ length xs * length ss
  length_pairs [] ss = sym (zero-mul (length ss))
  length_pairs (x ∷ xs) ss = rw (length-append, length-map, length_pairs xs ss, suc-mul, add_comm)

  pub length-words : (xs : List A) (n : ℕ) → length (words xs n) ≡ length xs ^ n
  length-words xs zero = sym (pow-zero (length xs))
  length-words xs (suc n) = rw (length_pairs, length-words xs n, pow-succ')

  -- the product law
  pub count-words : (xs : List A) (n : ℕ) (P : ℕ → A → Bool) → count (passes P) (words xs n) ≡ product n (λ e. count (P e) xs)
  count-words xs zero P = refl
  count-words xs (suc n) P =
      count-pairs (passes P) (P 0) (passes (λ e. P (suc e))) (λ x s. refl) xs (words xs n)
      ∙ rw (count-words xs n (λ e. P (suc e)))

  -- each string of length n is there once, if each letter is there once; and no other string
  pub words_once : (eq : A → A → Bool) (xs : List A) → ((x : A) → count (eq x) xs ≡ 1) → (s : List A) → count (same eq s) (words xs (length s)) ≡ 1
  words_once eq xs h [] = refl
  words_once eq xs h (x ∷ s) =
      count-pairs (same eq (x ∷ s)) (eq x) (same eq s) (λ y t. refl) xs (words xs (length s))
      ∙ rw (h x, words_once eq xs h s)

  pub words-length : (p : List A → Bool) (xs : List A) (n : ℕ) → ((s : List A) → length s ≡ n → p s ≡ false) → count p (words xs n) ≡ 0
  words-length p xs zero h = rw (h [] refl)
  words-length p xs (suc n) h =
      count_pairs_const p 0 xs (words xs n) (λ x. words-length (λ s. p (x ∷ s)) xs n (λ s e. h (x ∷ s) (ap suc e))) ∙ omega arith

  same_length : (eq : A → A → Bool) (s t : List A) → same eq s t ≡ true → length s ≡ length t
  same_length eq [] [] h = refl
  same_length eq [] (y ∷ t) h = absurd (false≢true h)
  same_length eq (x ∷ s) [] h = absurd (false≢true h)
  same_length eq (x ∷ s) (y ∷ t) h = ap suc (same_length eq s t (and_right (eq x y) (same eq s t) h))

  pub words-other : (eq : A → A → Bool) (xs : List A) (n : ℕ) (s : List A) → length s ≢ n → count (same eq s) (words xs n) ≡ 0
  words-other eq xs n s h = words-length (same eq s) xs n (λ t e. go t e (same eq s t) refl)
    where
      go : (t : List A) → length t ≡ n → (b : Bool) → same eq s t ≡ b → b ≡ false
      go t e true k = absurd (h (same_length eq s t k ∙ e))
      go t e false k = refl

-- ---- tests that agree

pub pairs_congr : {A : Type 0} (p r : List A → Bool) (xs : List A) (ss : List (List A)) → ((x : A) → count (λ s. p (x ∷ s)) ss ≡ count (λ s. r (x ∷ s)) ss)
    → count p (pairs xs ss) ≡ count r (pairs xs ss)
pairs_congr p r [] ss h = refl
pairs_congr p r (x ∷ xs) ss h =
    count-append p (map (λ s. x ∷ s) ss) (pairs xs ss)
    ∙ ap₂ ◌+◌ (count_map p (λ s. x ∷ s) ss ∙ h x ∙ sym (count_map r (λ s. x ∷ s) ss)) (pairs_congr p r xs ss h)
    ∙ sym (count-append r (map (λ s. x ∷ s) ss) (pairs xs ss))

-- tests that agree on the strings of length n
pub words_congr : {A : Type 0} (xs : List A) (n : ℕ) (p r : List A → Bool) → ((s : List A) → length s ≡ n → p s ≡ r s) → count p (words xs n) ≡ count r (words xs n)
words_congr xs zero p r h = rw (h [] refl)
words_congr xs (suc n) p r h = pairs_congr p r xs (words xs n) (λ x. words_congr xs n (λ s. p (x ∷ s)) (λ s. r (x ∷ s)) (λ s e. h (x ∷ s) (ap suc e)))
