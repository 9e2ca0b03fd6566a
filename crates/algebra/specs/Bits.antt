-- Vectors of bits, lowest first, and the numbers that they write.
--   Bits n == the vectors of n bits;  plus a b == the sum of two bits;  zeros n, unit n == 0 and 1
--   add n, scale n == sum, and product with a bit;  same n a b == whether a and b are equal
--   elem n x == the low n bits of the number x, bit by bit through bit;  byte n v == the number that v writes
--   elements n == all vectors of n bits, in the order of their numbers
--   on_basis n p, everywhere n p == the test p passes at each vector with a single 1; at every vector
-- Assumes nothing.
use Rattle.std.specs.Prelude.{Bool, true, false, not, ◌&&◌, List, [], ◌∷◌, ℕ, zero, suc, ◌+◌, ◌*◌, ◌/◌, ◌%◌}
use Rattle.algebra.specs.Count.{indicator}

abbrev pub Bits : ℕ → Type 0
Bits zero = Unit {0}
Bits (suc n) = Bool × Bits n

abbrev pub plus : Bool → Bool → Bool
plus true b = not b
plus false b = b

unfoldable pub zeros : (n : ℕ) → Bits n
zeros zero = tt
zeros (suc n) = (false, zeros n)

unfoldable pub unit : (n : ℕ) → Bits n
unit zero = tt
unit (suc n) = (true, zeros n)

unfoldable pub add : (n : ℕ) → Bits n → Bits n → Bits n
add zero a b = tt
add (suc n) a b = (plus a.0 b.0, add n a.1 b.1)

unfoldable pub scale : (n : ℕ) → Bool → Bits n → Bits n
scale n true v = v
scale n false v = zeros n

unfoldable pub same : (n : ℕ) → Bits n → Bits n → Bool
same zero a b = true
same (suc n) a b = not (plus a.0 b.0) && same n a.1 b.1

unfoldable pub bit : ℕ → Bool
bit zero = false
bit (suc n) = true

unfoldable pub elem : (n : ℕ) → ℕ → Bits n
elem zero x = tt
elem (suc n) x = (bit (x % 2), elem n (x / 2))

unfoldable pub byte : (n : ℕ) → Bits n → ℕ
byte zero v = 0
byte (suc n) v = byte n v.1 * 2 + indicator v.0

-- each vector with a lowest bit before it, 0 and then 1
unfoldable pub double : (n : ℕ) → List (Bits n) → List (Bits (suc n))
double n [] = []
double n (v ∷ l) = (false, v) ∷ (true, v) ∷ double n l

unfoldable pub elements : (n : ℕ) → List (Bits n)
elements zero = tt ∷ []
elements (suc n) = double n (elements n)

unfoldable pub on_basis : (n : ℕ) → (Bits n → Bool) → Bool
on_basis zero p = true
on_basis (suc n) p = p (true, zeros n) && on_basis n (λ x. p (false, x))

unfoldable pub everywhere : (n : ℕ) → (Bits n → Bool) → Bool
everywhere zero p = p tt
everywhere (suc n) p = everywhere n (λ x. p (false, x)) && everywhere n (λ x. p (true, x))
