-- Bytes added to a state: its length stays, pieces are added one after the other, a zero changes nothing, and the
-- padding is two bytes.
-- Assumes nothing.
use mathlib.Core.Path.{◌≡◌, refl, sym, ap, ◌∙◌}
use mathlib.Core.List.{List, [], ◌∷◌, ◌++◌}
use Prim.Native.Nat.{ℕ, zero, suc, ◌+◌, ◌*◌, ◌-◌, ◌/◌, ◌%◌, ◌^◌, ◌<◌}
use native.Mathlib.Nat.{add-zero, zero-mul}
use native.Mathlib.Omega.{arith}
use lib.ListN.{length, get_or, set, replicate, length-set, length-replicate, get_or-replicate}
use lib.Seq.{get_or-set_same, set-set, set-get_or}
use lib.Bits.{bit_xor, xor_zero_r}
use Rattle.sponge.specs.Lanes.{state_of, lane_count}
use Rattle.sponge.specs.Keccak.{χ, ι, rounded, rounds, keccak}
use Rattle.sponge.specs.Sponge.{added, added_all, padding, rate, suffix, last_bit}
use Rattle.strings.proofs.XorLaws.{xor_assoc}

pub added-length : (s : List ℕ) (j b : ℕ) → length (added s j b) ≡ length s
unfolding added
added-length s j b = length-set s (j / 8) _

pub all-length : (p s : List ℕ) (j : ℕ) → length (added_all s j p) ≡ length s
unfolding added_all
all-length [] s j = refl
all-length (b ∷ p) s j = all-length p (added s j b) (suc j) ∙ added-length s j b

pub all_append : (p q s : List ℕ) (j : ℕ) → added_all s j (p ++ q) ≡ added_all (added_all s j p) (j + length p) q
unfolding added_all
all_append [] q s j = ap (λ k. added_all s k q) (sym (add-zero j))
all_append (b ∷ p) q s j = all_append p q (added s j b) (suc j) ∙ ap (λ k. added_all (added_all (added s j b) (suc j) p) k q) (let e : suc j + length p ≡ j + suc (length p) = omega arith in e)

pub added-zero : (s : List ℕ) (j : ℕ) → added s j 0 ≡ s
unfolding added
added-zero s j = ap (set s (j / 8)) (ap (bit_xor (get_or s (j / 8) 0)) (zero-mul (2 ^ (8 * (j % 8)))) ∙ xor_zero_r (get_or s (j / 8) 0)) ∙ set-get_or s (j / 8) 0

-- zeros, and a last byte
zeros-last : (n x j : ℕ) (s : List ℕ) → added_all s j (set (replicate (suc n) 0) n x) ≡ added s (j + n) x
unfolding added_all
zeros-last zero x j s = ap (λ k. added s k x) (sym (add-zero j))
zeros-last (suc n) x j s =
    ap (λ t. added_all t (suc j) (set (replicate (suc n) 0) n x)) (added-zero s j) ∙ zeros-last n x (suc j) s
    ∙ ap (λ k. added s k x) (let e : suc j + n ≡ j + suc n = omega arith in e)

-- two bytes at one place
twice : (s : List ℕ) (j a b : ℕ) → j / 8 < length s → added (added s j a) j b ≡ set s (j / 8) (bit_xor (get_or s (j / 8) 0) (bit_xor (a * 2 ^ (8 * (j % 8))) (b * 2 ^ (8 * (j % 8)))))
unfolding added
twice s j a b h =
    let v = bit_xor (get_or s (j / 8) 0) (a * 2 ^ (8 * (j % 8))) in
    ap (λ x. set (set s (j / 8) v) (j / 8) (bit_xor x (b * 2 ^ (8 * (j % 8))))) (get_or-set_same s (j / 8) v 0 h)
    ∙ set-set s (j / 8) v _ ∙ ap (set s (j / 8)) (xor_assoc (get_or s (j / 8) 0) (a * 2 ^ (8 * (j % 8))) (b * 2 ^ (8 * (j % 8))))

two_ends : (n j : ℕ) (s : List ℕ) → j + suc (suc n) ≡ rate → added_all s j (padding (suc (suc n))) ≡ added (added s j suffix) (rate - 1) last_bit
unfolding added_all padding
two_ends n j s e =
    let back : suc (suc n) - 1 ≡ suc n = omega arith in
    let last : suc j + n ≡ rate - 1 = omega arith in
    ap (λ k. added_all s j (set (suffix ∷ replicate k 0) k (get_or (suffix ∷ replicate k 0) k 0 + last_bit))) back
    ∙ ap (λ x. added_all (added s j suffix) (suc j) (set (replicate (suc n) 0) n (x + last_bit))) (get_or-replicate (suc n) n 0 0 (omega arith))
    ∙ zeros-last n last_bit (suc j) (added s j suffix) ∙ ap (λ k. added (added s j suffix) k last_bit) last

one_end : (s : List ℕ) → length s ≡ lane_count → added s (rate - 1) (suffix + last_bit) ≡ added (added s (rate - 1) suffix) (rate - 1) last_bit
unfolding added
one_end s l = sym (twice s (rate - 1) suffix last_bit (omega arith))

pub padding_is : (q j : ℕ) (s : List ℕ) → j + q ≡ rate → 0 < q → length s ≡ lane_count → added_all s j (padding q) ≡ added (added s j suffix) (rate - 1) last_bit
unfolding added_all padding
padding_is zero j s e h l = absurd (omega arith)
padding_is (suc zero) j s e h l =
    let at : j ≡ rate - 1 = omega arith in
    rw at (one_end s l)
padding_is (suc (suc n)) j s e h l = two_ends n j s (omega arith)

pub padding-length : (q : ℕ) → 0 < q → length (padding q) ≡ q
unfolding padding
padding-length q h =
    length-set (suffix ∷ replicate (q - 1) 0) (q - 1) _ ∙ ap suc (length-replicate (q - 1) 0) ∙ let e : suc (q - 1) ≡ q = omega arith in e

pub keccak-length : (a : List ℕ) → length (keccak a) ≡ lane_count
unfolding keccak rounds rounded ι χ state_of
keccak-length a = refl
