-- Polynomials over the bits below degree r, with the product modulo X^r + m, and the tests that make them a field.
--   add_if n c v w == w, plus v where c is 1
--   shift n c v, out n c v == v moved one place up with c coming in below; the bit that falls out above
--   xtime r m v == X·v;  times r m k a b == Σ_{i<k} a_i·X^i·b;  mul r m a b == a·b
--   powers r m k x y == y·x^2·x^4 ⋯ x^(2^k);  inverse r m x == x^(2^r - 2)
--   commutes, associates, has_one == a law of the product, at the basis: it is additive on both sides, so that this is
--     enough
--   inverts == x·inverse x = 1 at every x but 0
--   Passes r m == the degree is 2 to 8, and the checker has computed the four tests
--   computing == names nothing: a declaration that says `unfolding computing` computes with bits and their products
-- Assumes nothing.
use Rattle.std.specs.Prelude.{Bool, true, false, ◌||◌, ℕ, zero, suc, pred, T, leb}
use Rattle.algebra.specs.Bits.{Bits, zeros, unit, add, scale, same, bit, elem, byte, double, elements, on_basis, everywhere}

unfoldable pub add_if : (n : ℕ) → Bool → Bits n → Bits n → Bits n
add_if n true v w = add n v w
add_if n false v w = w

unfoldable pub shift : (n : ℕ) → Bool → Bits n → Bits n
shift zero c v = tt
shift (suc n) c v = (c, shift n v.0 v.1)

unfoldable pub out : (n : ℕ) → Bool → Bits n → Bool
out zero c v = c
out (suc n) c v = out n v.0 v.1

unfoldable pub xtime : (r : ℕ) (m : Bits r) → Bits r → Bits r
xtime r m v = add_if r (out r false v) m (shift r false v)

unfoldable pub times : (r : ℕ) (m : Bits r) (k : ℕ) → Bits k → Bits r → Bits r
times r m zero a b = zeros r
times r m (suc k) a b = add_if r a.0 b (times r m k a.1 (xtime r m b))

unfoldable pub mul : (r : ℕ) (m : Bits r) → Bits r → Bits r → Bits r
mul r m a b = times r m r a b

unfoldable pub powers : (r : ℕ) (m : Bits r) → ℕ → Bits r → Bits r → Bits r
powers r m zero x y = y
powers r m (suc k) x y = let s = mul r m x x in powers r m k s (mul r m y s)

unfoldable pub inverse : (r : ℕ) (m : Bits r) → Bits r → Bits r
inverse r m x = powers r m (pred r) x (unit r)

unfoldable pub commutes : (r : ℕ) (m : Bits r) → Bool
commutes r m = on_basis r (λ a. on_basis r (λ b. same r (mul r m a b) (mul r m b a)))

unfoldable pub associates : (r : ℕ) (m : Bits r) → Bool
associates r m = on_basis r (λ a. on_basis r (λ b. on_basis r (λ c. same r (mul r m (mul r m a b) c) (mul r m a (mul r m b c)))))

unfoldable pub has_one : (r : ℕ) (m : Bits r) → Bool
has_one r m = on_basis r (λ a. same r (mul r m (unit r) a) a)

unfoldable pub inverts : (r : ℕ) (m : Bits r) → Bool
inverts r m = everywhere r (λ a. same r a (zeros r) || same r (mul r m a (inverse r m a)) (unit r))

pub record Passes (r : ℕ) (m : Bits r) : Type 0 where
  pub least? : T (leb 2 r)
  pub most? : T (leb r 8)
  pub commutes? : T (commutes r m)
  pub associates? : T (associates r m)
  pub one? : T (has_one r m)
  pub inverts? : T (inverts r m)

unfoldable pub computing : ℕ
unfolding add_if zeros unit add scale same bit elem byte double elements on_basis everywhere shift out xtime times mul powers inverse commutes associates has_one inverts
computing = 0
