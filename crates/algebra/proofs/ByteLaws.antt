-- The numbers that bit vectors write: there and back, and the sum of vectors is the exclusive or of their numbers.
-- Assumes nothing.
use mathlib.Core.Path.{◌≡◌, refl, sym, ap, ap₂, ◌∙◌}
use mathlib.Core.Bool.{Bool, true, false}
use Prim.Native.Nat.{ℕ, zero, suc, ◌+◌, ◌*◌, ◌/◌, ◌%◌, ◌^◌, ◌<◌, ◌≤◌}
use native.Mathlib.Nat.{not-suc-le-zero, le_of_suc-le-suc, pow-suc, div-lt_iff_lt-mul, mod-lt, div-add-mod', mul-zero, mul-one}
use native.Mathlib.Omega.{arith}
use lib.Dec.{lit<}
use lib.Arith.{digits_lt, digits_div, digits_mod, lt-one}
use lib.Bits.{bit_xor, differ, xor_step, xor_lt}
use Rattle.algebra.specs.Count.{indicator}
use Rattle.algebra.specs.Bits.{Bits, plus, zeros, unit, add, scale, bit, elem, byte}
use Rattle.algebra.proofs.BitsLaws.{pair}

pub bit-indicator : (c : Bool) → bit (indicator c) ≡ c
unfolding bit
bit-indicator true = refl
bit-indicator false = refl

pub indicator-bit : (x : ℕ) → x < 2 → indicator (bit x) ≡ x
unfolding bit
indicator-bit zero h = refl
indicator-bit (suc zero) h = refl
indicator-bit (suc (suc x)) h = absurd (not-suc-le-zero (le_of_suc-le-suc (le_of_suc-le-suc h)))

pub indicator_lt : (c : Bool) → indicator c < 2
indicator_lt true = lit< tt
indicator_lt false = lit< tt

two_pos : 0 < 2
two_pos = lit< tt

pub elem-byte : (n : ℕ) (v : Bits n) → elem n (byte n v) ≡ v
unfolding elem byte
elem-byte zero v = refl
elem-byte (suc n) v =
    pair n (ap bit (digits_mod (byte n v.1) (indicator_lt v.0)) ∙ bit-indicator v.0)
    (ap (elem n) (digits_div (byte n v.1) (indicator_lt v.0)) ∙ elem-byte n v.1)

pub byte_lt : (n : ℕ) (v : Bits n) → byte n v < 2 ^ n
unfolding byte
byte_lt zero v = lit< tt
byte_lt (suc n) v = rw (pow-suc 2 n) (digits_lt (byte_lt n v.1) (indicator_lt v.0))

pub byte-elem : (n x : ℕ) → x < 2 ^ n → byte n (elem n x) ≡ x
unfolding elem byte
byte-elem zero x h = sym (lt-one h)
byte-elem (suc n) x h =
    ap₂ (λ (p q : ℕ). p * 2 + q) (byte-elem n (x / 2) ((div-lt_iff_lt-mul two_pos).1 (rw (pow-suc 2 n) at h))) (indicator-bit (x % 2) (mod-lt x two_pos))
    ∙ div-add-mod' x 2

differ_lt : (x y : ℕ) → x < 2 → y < 2 → differ x y < 2
differ_lt zero y hx hy = hy
differ_lt (suc zero) zero hx hy = lit< tt
differ_lt (suc zero) (suc y) hx hy = omega arith
differ_lt (suc (suc x)) y hx hy = absurd (not-suc-le-zero (le_of_suc-le-suc (le_of_suc-le-suc hx)))

bit_differ : (x y : ℕ) → x < 2 → y < 2 → bit (differ x y) ≡ plus (bit x) (bit y)
unfolding bit
bit_differ zero y hx hy = refl
bit_differ (suc zero) zero hx hy = refl
bit_differ (suc zero) (suc zero) hx hy = refl
bit_differ (suc zero) (suc (suc y)) hx hy = absurd (not-suc-le-zero (le_of_suc-le-suc (le_of_suc-le-suc hy)))
bit_differ (suc (suc x)) y hx hy = absurd (not-suc-le-zero (le_of_suc-le-suc (le_of_suc-le-suc hx)))

-- the sum of the field is the exclusive or of the numbers
pub elem_xor : (n a b : ℕ) → elem n (bit_xor a b) ≡ add n (elem n a) (elem n b)
unfolding elem add
elem_xor zero a b = refl
elem_xor (suc n) a b =
    pair n
    (ap (λ (x : ℕ). bit (x % 2)) (xor_step a b) ∙ ap bit (digits_mod (bit_xor (a / 2) (b / 2)) (differ_lt (a % 2) (b % 2) (mod-lt a two_pos) (mod-lt b two_pos)))
    ∙ bit_differ (a % 2) (b % 2) (mod-lt a two_pos) (mod-lt b two_pos))
    (ap (λ (x : ℕ). elem n (x / 2)) (xor_step a b)
    ∙ ap (elem n) (digits_div (bit_xor (a / 2) (b / 2)) (differ_lt (a % 2) (b % 2) (mod-lt a two_pos) (mod-lt b two_pos)))
    ∙ elem_xor n (a / 2) (b / 2))

pub byte-add : (n : ℕ) (a b : Bits n) → byte n (add n a b) ≡ bit_xor (byte n a) (byte n b)
byte-add n a b =
    ap (byte n) (sym (ap₂ (add n) (elem-byte n a) (elem-byte n b)) ∙ sym (elem_xor n (byte n a) (byte n b)))
    ∙ byte-elem n (bit_xor (byte n a) (byte n b)) (xor_lt n (byte n a) (byte n b) (byte_lt n a) (byte_lt n b))

pub elem-zero : (n : ℕ) → elem n 0 ≡ zeros n
unfolding elem zeros bit
elem-zero zero = refl
elem-zero (suc n) = pair n refl (elem-zero n)

pub elem-one : (n : ℕ) → 1 ≤ n → elem n 1 ≡ unit n
unfolding elem unit bit
elem-one zero h = absurd (not-suc-le-zero h)
elem-one (suc n) h = pair n refl (elem-zero n)

pub elem-scale : (n x q : ℕ) → q < 2 → elem n (x * q) ≡ scale n (bit q) (elem n x)
unfolding scale bit
elem-scale n x zero h = ap (elem n) (mul-zero x) ∙ elem-zero n
elem-scale n x (suc zero) h = ap (elem n) (mul-one x)
elem-scale n x (suc (suc q)) h = absurd (omega arith)
