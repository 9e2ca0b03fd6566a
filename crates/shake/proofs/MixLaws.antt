-- A turn of the loops that add bytes to the lanes: what is left to add, added to the lanes as they stand, stays the
-- same.
-- Assumes nothing.
use mathlib.Core.Path.{◌≡◌, sym, ap, ap₂, ◌∙◌}
use mathlib.Core.List.{List}
use Prim.Native.Nat.{ℕ, suc, ◌+◌, ◌*◌, ◌/◌, ◌%◌, ◌-◌, ◌^◌, ◌≤◌, ◌<◌, min}
use native.Mathlib.Nat.{eq-or-lt_of_le}
use native.Mathlib.Numerals.{add-one}
use native.Mathlib.Omega.{arith}
use lib.ListN.{length, get_or, set, take, drop, length-drop, take-append-drop, drop_of_length-le}
use lib.Seq.{drop-cons, drop-drop, length-take-le, take_all}
use mathlib.Core.Logic.{◌⊎◌, inl, inr, ⊎_elim}
use lib.Bits.{bit_xor}
use lib.Pow.{shl_exact}
use Rattle.sponge.specs.Sponge.{added, added_all}
use Rattle.strings.specs.Words.{word_of}
use Rattle.shake.proofs.StateLaws.{all_append}
use Rattle.shake.proofs.WordLaws.{lane_word}

split_at : (p a : List ℕ) (at h : ℕ) → h ≤ length p → added_all (added_all a at (take h p)) (at + h) (drop h p) ≡ added_all a at p
split_at p a at h l =
    ap (λ k. added_all (added_all a at (take h p)) (at + k) (drop h p)) (sym (length-take-le h p l))
    ∙ sym (all_append (take h p) (drop h p) a at) ∙ ap (added_all a at) (take-append-drop h p)

-- the whole lanes start where a lane does, unless there are none
pub where_words : (at h n : ℕ) → h ≤ (8 - at % 8) % 8 → (h < (8 - at % 8) % 8 → h ≡ n) → (h + (n - h) / 8 * 8 ≡ h) ⊎ (8 * ((at + h) / 8) ≡ at + h)
where_words at h n l full = ⊎_elim (λ (e : h ≡ (8 - at % 8) % 8). inr (omega arith)) (λ (k : h < (8 - at % 8) % 8). inl (omega (arith, full k))) (eq-or-lt_of_le l)

pub where-words_min : (at h n : ℕ) → h ≡ min ((8 - at % 8) % 8) n → (h + (n - h) / 8 * 8 ≡ h) ⊎ (8 * ((at + h) / 8) ≡ at + h)
where-words_min at h n e = where_words at h n (omega arith) (λ k. omega arith)

-- bytes up to a lane's end, whole lanes, and the bytes that are left
pub three_parts : (p a : List ℕ) (at h t : ℕ) → h ≤ t → t ≤ length p → (t ≡ h) ⊎ (8 * ((at + h) / 8) ≡ at + h)
    → added_all (added_all (added_all a at (take h p)) (8 * ((at + h) / 8)) (take (t - h) (drop h p))) (at + t) (take (length p - t) (drop t p)) ≡ added_all a at p
unfolding added_all
three_parts p a at h t ht tp from =
    let b = added_all a at (take h p) in
    let none : t ≡ h → t - h ≡ 0 = λ e. omega arith in
    let whole : added_all b (8 * ((at + h) / 8)) (take (t - h) (drop h p)) ≡ added_all b (at + h) (take (t - h) (drop h p)) =
    ⊎_elim
    (λ (e : t ≡ h). ap (λ n. added_all b (8 * ((at + h) / 8)) (take n (drop h p))) (none e) ∙ sym (ap (λ n. added_all b (at + h) (take n (drop h p))) (none e)))
    (λ (e : 8 * ((at + h) / 8) ≡ at + h). ap (λ j. added_all b j (take (t - h) (drop h p))) e)
    from in
    let to : at + t ≡ at + h + (t - h) = omega arith in
    let there : h + (t - h) ≡ t = omega arith in
    let fits : t - h ≤ length (drop h p) = omega (arith, length-drop h p) in
    let last : take (length p - t) (drop t p) ≡ drop (t - h) (drop h p) =
    take_all (length p - t) (drop t p) (omega (arith, length-drop t p)) ∙ ap (λ k. drop k p) (sym there) ∙ sym (drop-drop (t - h) h p) in
    ap (λ s. added_all s (at + t) (take (length p - t) (drop t p))) whole
    ∙ ap₂ (added_all (added_all b (at + h) (take (t - h) (drop h p)))) to last
    ∙ split_at (drop h p) b (at + h) (t - h) fits ∙ split_at p a at h (omega arith)

module _ (p a : List ℕ) where
  pub none_left : (at i : ℕ) → length p ≤ i → a ≡ added_all a at (drop i p)
  unfolding added_all
  none_left at i h = ap (added_all a at) (sym (drop_of_length-le p h))

  pub byte_step : (at i b : ℕ) → i < length p → b ≡ get_or p i 0 → get_or p i 0 < 2 ^ 8
      → added_all (set a ((at + i) / 8) (bit_xor (get_or a ((at + i) / 8) 0) (b * 2 ^ (8 * ((at + i) % 8)) % 2 ^ 64))) (at + (i + 1)) (drop (i + 1) p) ≡ added_all a (at + i) (drop i p)
  unfolding added_all added
  byte_step at i b h e small =
      let j = at + i in
      let next : at + (i + 1) ≡ suc j = omega arith in
      ap (λ x. added_all (set a (j / 8) (bit_xor (get_or a (j / 8) 0) (x * 2 ^ (8 * (j % 8)) % 2 ^ 64))) (at + (i + 1)) (drop (i + 1) p)) e
      ∙ ap (λ x. added_all (set a (j / 8) (bit_xor (get_or a (j / 8) 0) x)) (at + (i + 1)) (drop (i + 1) p)) (shl_exact 8 (8 * (j % 8)) 64 small (omega arith))
      ∙ ap₂ (added_all (added a j (get_or p i 0))) next (ap (λ k. drop k p) (add-one i))
      ∙ sym (ap (added_all a j) (drop-cons p i 0 h))

  pub word-step : ((i : ℕ) → get_or p i 0 < 256) → (first i w : ℕ) → i * 8 + 8 ≤ length p → first + i < length a → w ≡ word_of p (i * 8) 8
      → added_all (set a (first + i) (bit_xor (get_or a (first + i) 0) w)) (8 * first + (i + 1) * 8) (drop ((i + 1) * 8) p) ≡ added_all a (8 * first + i * 8) (drop (i * 8) p)
  word-step bytes first i w l h e =
      let k = first + i in
      let part = take 8 (drop (i * 8) p) in
      let long : length part ≡ 8 = length-take-le 8 (drop (i * 8) p) (omega (arith, length-drop (i * 8) p)) in
      let from : 8 * k ≡ 8 * first + i * 8 = omega arith in
      let next : (i + 1) * 8 ≡ i * 8 + 8 = omega arith in
      let to : 8 * first + (i * 8 + 8) ≡ 8 * k + length part = omega arith in
      ap₂ (λ x n. added_all (set a k (bit_xor (get_or a k 0) x)) (8 * first + n) (drop n p)) e next
      ∙ ap (λ t. added_all t (8 * first + (i * 8 + 8)) (drop (i * 8 + 8) p)) (sym (lane_word p (i * 8) bytes a k h 8 (omega arith) l))
      ∙ ap₂ (added_all (added_all a (8 * k) part)) to (sym (drop-drop 8 (i * 8) p))
      ∙ sym (all_append part (drop 8 (drop (i * 8) p)) a (8 * k))
      ∙ ap₂ (added_all a) from (take-append-drop 8 (drop (i * 8) p))
