-- Bytes as one word: what it adds to a lane is what they add to the lane's bytes.
-- Assumes nothing.
use mathlib.Core.Path.{◌≡◌, sym, ap, ap₂, ◌∙◌}
use mathlib.Core.List.{List, [], ◌∷◌, ◌++◌}
use Prim.Native.Nat.{ℕ, zero, suc, ◌+◌, ◌*◌, ◌/◌, ◌%◌, ◌^◌, ◌≤◌, ◌<◌}
use native.Mathlib.Omega.{arith}
use lib.ListN.{length, get_or, set, take, drop, length-drop}
use lib.Seq.{take-suc, get_or-drop, length-take-le, get_or-set_same, set-set, set-get_or}
use lib.Bits.{bit_xor, xor_comm, xor_shifted, xor_zero_r}
use Rattle.sponge.specs.Sponge.{added, added_all}
use Rattle.strings.specs.Words.{word_of}
use Rattle.strings.proofs.XorLaws.{xor_assoc}
use Rattle.strings.proofs.WordLaws.{word_lt}
use Rattle.shake.proofs.StateLaws.{all_append}

module _ (s : List ℕ) (at : ℕ) (bytes : (i : ℕ) → get_or s i 0 < 256) where
  word_sum : (n : ℕ) → bit_xor (word_of s at n) (get_or s (at + n) 0 * 2 ^ (8 * n)) ≡ word_of s at (suc n)
  unfolding word_of
  word_sum n = xor_comm (word_of s at n) _ ∙ xor_shifted (get_or s (at + n) 0) (8 * n) (word_of s at n) (word_lt s at bytes n)

  -- n bytes added to a lane are their word added to it
  module _ (a : List ℕ) (k : ℕ) (h : k < length a) where
    lane_more : (n w b : ℕ) → n < 8 → added (set a k (bit_xor (get_or a k 0) w)) (8 * k + n) b ≡ set a k (bit_xor (get_or a k 0) (bit_xor w (b * 2 ^ (8 * n))))
    unfolding added
    lane_more n w b l =
        let q : (8 * k + n) / 8 ≡ k = omega arith in
        let r : (8 * k + n) % 8 ≡ n = omega arith in
        let v = bit_xor (get_or a k 0) w in
        ap₂ (λ i m. set (set a k v) i (bit_xor (get_or (set a k v) i 0) (b * 2 ^ (8 * m)))) q r
        ∙ ap (λ x. set (set a k v) k (bit_xor x (b * 2 ^ (8 * n)))) (get_or-set_same a k v 0 h)
        ∙ set-set a k v _ ∙ ap (set a k) (xor_assoc (get_or a k 0) w (b * 2 ^ (8 * n)))

    pub lane_word : (n : ℕ) → n ≤ 8 → at + n ≤ length s → added_all a (8 * k) (take n (drop at s)) ≡ set a k (bit_xor (get_or a k 0) (word_of s at n))
    unfolding added_all word_of
    lane_word zero l m = sym (ap (set a k) (xor_zero_r (get_or a k 0)) ∙ set-get_or a k 0)
    lane_word (suc n) l m =
        let fits : n < length (drop at s) = omega (arith, length-drop at s) in
        let p = take n (drop at s) in
        ap (added_all a (8 * k)) (take-suc (drop at s) n 0 fits ∙ ap (λ b. p ++ b ∷ []) (get_or-drop at s n 0))
        ∙ all_append p (get_or s (at + n) 0 ∷ []) a (8 * k)
        ∙ ap₂ (λ t j. added t (8 * k + j) (get_or s (at + n) 0)) (lane_word n (omega arith) (omega arith)) (length-take-le n (drop at s) (omega arith))
        ∙ lane_more n (word_of s at n) (get_or s (at + n) 0) l
        ∙ ap (λ w. set a k (bit_xor (get_or a k 0) w)) (word_sum n)
