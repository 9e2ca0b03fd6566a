-- A number from its digits, the last first.
--   digits b f n k == what the last k of the n digits f(0), .., f(n - 1) to the base b write
-- Assumes nothing.
use Rattle.std.proofs.Common.{◌≡◌, ℕ, zero, suc, ◌+◌, ◌*◌, ◌-◌, ◌^◌, ◌<◌, ◌≤◌, List, arith, pow-add, add-zero}
use Rattle.strings.specs.Sums.{byte_at}
use Rattle.forms_choices.specs.Entries.{fives_word}

unfoldable pub digits : ℕ → (ℕ → ℕ) → ℕ → ℕ → ℕ
digits b f n zero = 0
digits b f n (suc k) = digits b f n k * b + f (n - 1 - k)

pub digits-none : (b n : ℕ) (f : ℕ → ℕ) → 0 ≡ digits b f n 0
unfolding digits
digits-none b n f = omega arith

pub digits-more : (b n k : ℕ) (f : ℕ → ℕ) → digits b f n k * b + f (n - 1 - k) ≡ digits b f n (k + 1)
unfolding digits
digits-more b n k f = let e : k + 1 ≡ suc k = omega arith in rw e (omega arith)

-- bytes in place of digits: the number is not much longer
pub digits-most : (f : ℕ → ℕ) (n k : ℕ) → ((i : ℕ) → f i < 256) → 31 * digits 32 f n k + 255 ≤ 255 * 2 ^ (5 * k)
unfolding digits
digits-most f n zero small = omega arith
digits-most f n (suc k) small =
    let e : 5 * suc k ≡ 5 * k + 5 = omega arith in
    let pow : 2 ^ (5 * suc k) ≡ 2 ^ (5 * k) * 32 = rw e (pow-add 2 (5 * k) 5) in
    omega (arith, digits-most f n k small, small (n - 1 - k), pow)

pub digits-word : (P : List ℕ) (at : ℕ) → digits 32 (λ k. byte_at P (at + k)) 10 10 ≡ fives_word P at
unfolding digits
digits-word P at = rw (add-zero at) (omega arith)

-- digits that are bits
pub digits-small : (f : ℕ → ℕ) (n k : ℕ) → ((i : ℕ) → f i < 2) → digits 2 f n k < 2 ^ k
unfolding digits
digits-small f n zero small = omega arith
digits-small f n (suc k) small =
    let e : suc k ≡ k + 1 = omega arith in
    let pow : 2 ^ suc k ≡ 2 ^ k * 2 = rw e (pow-add 2 k 1) in
    omega (arith, digits-small f n k small, small (n - 1 - k), pow)

pub digits-five : (f : ℕ → ℕ) → digits 2 f 5 5 ≡ f 0 + f 1 * 2 + f 2 * 4 + f 3 * 8 + f 4 * 16
unfolding digits
digits-five f = omega arith
