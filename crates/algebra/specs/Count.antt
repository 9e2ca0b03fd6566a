-- How many elements of a list pass a test, and the strings of a length over an alphabet.
--   indicator b == 1 if b is true, 0 if not;  count p xs == how many elements of xs pass the test p
--   pairs xs ss == each x of xs before each s of ss;  words xs n == the strings of n letters from xs
--   same eq s t == the strings s and t are equal, letter by letter
--   passes P s == letter e of s passes the test P e, for each e;  product n f == f 0 · f 1 ⋯ f (n - 1)
-- Assumes nothing.
use Rattle.std.specs.Prelude.{Bool, true, false, ◌&&◌, List, [], ◌∷◌, ◌++◌, map, ℕ, zero, suc, ◌+◌, ◌*◌}

abbrev pub indicator : Bool → ℕ
indicator true = 1
indicator false = 0

abbrev pub count : {A : Type 0} → (A → Bool) → List A → ℕ
count p [] = 0
count p (x ∷ xs) = indicator (p x) + count p xs

abbrev pub pairs : {A : Type 0} → List A → List (List A) → List (List A)
pairs [] ss = []
pairs (x ∷ xs) ss = map (λ s. x ∷ s) ss ++ pairs xs ss

abbrev pub words : {A : Type 0} → List A → ℕ → List (List A)
words xs zero = [] ∷ []
words xs (suc n) = pairs xs (words xs n)

abbrev pub same : {A : Type 0} → (A → A → Bool) → List A → List A → Bool
same eq [] [] = true
same eq [] (y ∷ ys) = false
same eq (x ∷ xs) [] = false
same eq (x ∷ xs) (y ∷ ys) = eq x y && same eq xs ys

abbrev pub passes : {A : Type 0} → (ℕ → A → Bool) → List A → Bool
passes P [] = true
passes P (x ∷ xs) = P zero x && passes (λ e. P (suc e)) xs

abbrev pub product : ℕ → (ℕ → ℕ) → ℕ
product zero f = 1
product (suc n) f = f zero * product n (λ e. f (suc e))
