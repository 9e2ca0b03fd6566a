-- Sums of bit vectors, their equality test, and the list of all of them.
-- Assumes nothing.
use mathlib.Core.Path.{◌≡◌, refl, sym, ap, ◌∙◌}
use mathlib.Core.Bool.{Bool, true, false, not, ◌&&◌}
use mathlib.Core.List.{List, [], ◌∷◌}
use Prim.Native.Nat.{ℕ, zero, suc, ◌*◌, ◌^◌}
use native.Mathlib.Nat.{pow-suc}
use native.Mathlib.Omega.{arith}
use lib.Dec.{T}
use lib.ListN.{length}
use Rattle.algebra.specs.Count.{count}
use Rattle.algebra.specs.Bits.{Bits, plus, zeros, add, same, double, elements}

pub pair : (n : ℕ) {a b : Bool} {x y : Bits n} → a ≡ b → x ≡ y → ◌≡◌ {A = Bits (suc n)} (a, x) (b, y)
pair n p q = λ i. (p i, q i)

pub plus_assoc : (a b c : Bool) → plus (plus a b) c ≡ plus a (plus b c)
plus_assoc true true true = refl
plus_assoc true true false = refl
plus_assoc true false c = refl
plus_assoc false b c = refl

pub plus_comm : (a b : Bool) → plus a b ≡ plus b a
plus_comm true true = refl
plus_comm true false = refl
plus_comm false true = refl
plus_comm false false = refl

pub plus_self : (a : Bool) → plus a a ≡ false
plus_self true = refl
plus_self false = refl

pub add_assoc : (n : ℕ) (a b c : Bits n) → add n (add n a b) c ≡ add n a (add n b c)
unfolding add
add_assoc zero a b c = refl
add_assoc (suc n) a b c = pair n (plus_assoc a.0 b.0 c.0) (add_assoc n a.1 b.1 c.1)

pub add_comm : (n : ℕ) (a b : Bits n) → add n a b ≡ add n b a
unfolding add
add_comm zero a b = refl
add_comm (suc n) a b = pair n (plus_comm a.0 b.0) (add_comm n a.1 b.1)

pub add-zero : (n : ℕ) (a : Bits n) → add n (zeros n) a ≡ a
unfolding add zeros
add-zero zero a = refl
add-zero (suc n) a = pair n refl (add-zero n a.1)

pub add_self : (n : ℕ) (a : Bits n) → add n a a ≡ zeros n
unfolding add zeros
add_self zero a = refl
add_self (suc n) a = pair n (plus_self a.0) (add_self n a.1)

pub add_zero_r : (n : ℕ) (a : Bits n) → add n a (zeros n) ≡ a
add_zero_r n a = add_comm n a (zeros n) ∙ add-zero n a

-- (a + b) + (c + d) = (a + c) + (b + d)
pub add-four : (n : ℕ) (a b c d : Bits n) → add n (add n a b) (add n c d) ≡ add n (add n a c) (add n b d)
add-four n a b c d =
    add_assoc n a b (add n c d)
    ∙ ap (add n a) (sym (add_assoc n b c d) ∙ ap (λ (x : Bits n). add n x d) (add_comm n b c) ∙ add_assoc n c b d)
    ∙ sym (add_assoc n a c (add n b d))

-- ---- the equality test

pub both_left : (a b : Bool) → T (a && b) → T a
both_left true b t = tt
both_left false b t = t

pub both_right : (a b : Bool) → T (a && b) → T b
both_right true b t = t
both_right false b t = absurd t

pub both : (a b : Bool) → T a → T b → T (a && b)
both true b s t = t
both false b s t = s

pub bit-same : (a b : Bool) → T (not (plus a b)) → a ≡ b
bit-same true true t = refl
bit-same true false t = absurd t
bit-same false true t = absurd t
bit-same false false t = refl

bit_refl : (a : Bool) → T (not (plus a a))
bit_refl true = tt
bit_refl false = tt

pub same_eq : (n : ℕ) (a b : Bits n) → T (same n a b) → a ≡ b
unfolding same
same_eq zero a b t = refl
same_eq (suc n) a b t =
    pair n (bit-same a.0 b.0 (both_left (not (plus a.0 b.0)) (same n a.1 b.1) t))
    (same_eq n a.1 b.1 (both_right (not (plus a.0 b.0)) (same n a.1 b.1) t))

pub same_refl : (n : ℕ) (a : Bits n) → T (same n a a)
unfolding same
same_refl zero a = tt
same_refl (suc n) a = both (not (plus a.0 a.0)) (same n a.1 a.1) (bit_refl a.0) (same_refl n a.1)

-- ---- the list of all vectors

double-length : (n : ℕ) (l : List (Bits n)) → length (double n l) ≡ length l * 2
unfolding double
double-length n [] = refl
double-length n (v ∷ l) = ap (λ (k : ℕ). suc (suc k)) (double-length n l) ∙ omega arith

pub elements-length : (n : ℕ) → length (elements n) ≡ 2 ^ n
unfolding elements
elements-length zero = refl
elements-length (suc n) = double-length n (elements n) ∙ ap (λ (k : ℕ). k * 2) (elements-length n) ∙ sym (pow-suc 2 n)

-- in a doubled list the lowest bit picks one of two
double_once : (n : ℕ) (c : Bool) (v : Bits n) (l : List (Bits n)) → count (same (suc n) (c, v)) (double n l) ≡ count (same n v) l
unfolding double same
double_once n c v [] = refl
double_once n true v (x ∷ l) = rw (double_once n true v l) (omega arith)
double_once n false v (x ∷ l) = rw (double_once n false v l) (omega arith)

pub elements_once : (n : ℕ) (v : Bits n) → count (same n v) (elements n) ≡ 1
unfolding elements same
elements_once zero v = refl
elements_once (suc n) v = double_once n v.0 v.1 (elements n) ∙ elements_once n v.1
