-- A turn of the loops that give bytes: a part of the output is filled, and those before it stay.
-- Assumes nothing.
use mathlib.Core.Path.{◌≡◌, refl, sym, ap, ap₂, ◌∙◌}
use mathlib.Core.List.{List, [], ◌∷◌, ◌++◌}
use Prim.Native.Nat.{ℕ, zero, suc, ◌+◌, ◌*◌, ◌/◌, ◌%◌, ◌-◌, ◌^◌, ◌≤◌, ◌<◌}
use native.Mathlib.Nat.{div-one}
use native.Mathlib.Omega.{arith}
use lib.ListN.{length, get_or, set, take, drop, length-append, length-drop}
use lib.Seq.{take_at, take_all, length-take-le}
use mathlib.Core.Logic.{◌⊎◌, ⊎_elim}
use borrow.Rule.Slice.PartMut.{put_mid, same_len_mid}
use Rattle.std.proofs.lemmas.Slice.{take-put_mid}
use Rattle.sponge.specs.Lanes.{listed}
use Rattle.sponge.specs.Sponge.{byte_in, rate}
use Rattle.std.specs.Int.{w64, to_le_bytes}
use Rattle.shake.specs.Pieces.{Held, settled, given, after}
use Rattle.shake.proofs.PieceLaws.{listed_more, given_more, after_more, given-part, after-part}

module _ (h : Held) (s : List ℕ) (at i n : ℕ) (is : (s, at) ≡ after h i) (l : at < rate) (k : at + n ≤ rate) where
  pub given-step : given h i ++ listed n (byte_in s) at ≡ given h (i + n)
  given-step = ap (λ b. given h i ++ b) (sym (given-part n s at l k) ∙ ap (λ g. given g n) is) ∙ sym (given_more i n h)

  pub after-step : settled s (at + n) ≡ after h (i + n)
  after-step = sym (after-part n s at l k) ∙ ap (λ g. after g n) is ∙ sym (after_more i n h)

-- byte k of a number
unfoldable pub word_byte : ℕ → ℕ → ℕ
word_byte w k = w / 2 ^ (8 * k) % 2 ^ 8

pub word-bytes : (w : ℕ) → to_le_bytes w64 w ≡ listed 8 (word_byte w) 0
unfolding listed word_byte
word-bytes w =
    ap (λ x. x % 256 ∷ w / 2 ^ 8 % 256 ∷ w / 2 ^ 16 % 256 ∷ w / 2 ^ 24 % 256 ∷ w / 2 ^ 32 % 256 ∷ w / 2 ^ 40 % 256 ∷ w / 2 ^ 48 % 256 ∷ w / 2 ^ 56 % 256 ∷ []) (sym (div-one w))

-- eight bytes written, whatever stood there
eight : (l : List ℕ) (a b c d e f g h : ℕ) → length l ≡ 8
    → set (set (set (set (set (set (set (set l 0 a) 1 b) 2 c) 3 d) 4 e) 5 f) 6 g) 7 h ≡ a ∷ b ∷ c ∷ d ∷ e ∷ f ∷ g ∷ h ∷ []
eight [] a b c d e f g h n = absurd (omega arith)
eight (_ ∷ []) a b c d e f g h n = absurd (omega arith)
eight (_ ∷ _ ∷ []) a b c d e f g h n = absurd (omega arith)
eight (_ ∷ _ ∷ _ ∷ []) a b c d e f g h n = absurd (omega arith)
eight (_ ∷ _ ∷ _ ∷ _ ∷ []) a b c d e f g h n = absurd (omega arith)
eight (_ ∷ _ ∷ _ ∷ _ ∷ _ ∷ []) a b c d e f g h n = absurd (omega arith)
eight (_ ∷ _ ∷ _ ∷ _ ∷ _ ∷ _ ∷ []) a b c d e f g h n = absurd (omega arith)
eight (_ ∷ _ ∷ _ ∷ _ ∷ _ ∷ _ ∷ _ ∷ []) a b c d e f g h n = absurd (omega arith)
eight (_ ∷ _ ∷ _ ∷ _ ∷ _ ∷ _ ∷ _ ∷ _ ∷ []) a b c d e f g h n = refl
eight (_ ∷ _ ∷ _ ∷ _ ∷ _ ∷ _ ∷ _ ∷ _ ∷ _ ∷ l) a b c d e f g h n = absurd (omega arith)

pub word_stored : (l : List ℕ) (w : ℕ) → length l ≡ 8
    → set (set (set (set (set (set (set (set l 0 (w % 256)) 1 (w / 2 ^ 8 % 256)) 2 (w / 2 ^ 16 % 256)) 3 (w / 2 ^ 24 % 256)) 4 (w / 2 ^ 32 % 256)) 5 (w / 2 ^ 40 % 256)) 6 (w / 2 ^ 48 % 256)) 7 (w / 2 ^ 56 % 256) ≡ listed 8 (word_byte w) 0
word_stored l w n =
    eight l (w % 256) (w / 2 ^ 8 % 256) (w / 2 ^ 16 % 256) (w / 2 ^ 24 % 256) (w / 2 ^ 32 % 256) (w / 2 ^ 40 % 256) (w / 2 ^ 48 % 256) (w / 2 ^ 56 % 256) n ∙ word-bytes w

listed-at : (n k i : ℕ) (f : ℕ → ℕ) → k < n → get_or (listed n f i) k 0 ≡ f (i + k)
unfolding listed
listed-at zero k i f h = absurd (omega arith)
listed-at (suc n) zero i f h = ap f (let e : i ≡ i + 0 = omega arith in e)
listed-at (suc n) (suc k) i f h = listed-at n k (suc i) f (omega arith) ∙ ap f (let e : suc i + k ≡ i + suc k = omega arith in e)

-- a byte of a lane, as that of the state
pub lane-byte : (s : List ℕ) (j : ℕ) → get_or (to_le_bytes w64 (get_or s (j / 8) 0)) (j % 8) 0 ≡ byte_in s j
unfolding word_byte byte_in
lane-byte s j =
    let w = get_or s (j / 8) 0 in
    let e : 0 + j % 8 ≡ j % 8 = omega arith in
    ap (λ l. get_or l (j % 8) 0) (word-bytes w) ∙ listed-at 8 (j % 8) 0 (word_byte w) (omega arith) ∙ ap (word_byte w) e

-- the bytes of a lane, as those of the state
lane-bytes : (n m k : ℕ) (s : List ℕ) → m + n ≤ 8 → listed n (word_byte (get_or s k 0)) m ≡ listed n (byte_in s) (8 * k + m)
unfolding listed word_byte byte_in
lane-bytes zero m k s h = refl
lane-bytes (suc n) m k s h =
    let q : k ≡ (8 * k + m) / 8 = omega arith in
    let r : m ≡ (8 * k + m) % 8 = omega arith in
    let o : 8 * k + suc m ≡ suc (8 * k + m) = omega arith in
    ap₂ ◌∷◌ (ap₂ (λ a b. get_or s a 0 / 2 ^ (8 * b) % 2 ^ 8) q r) (lane-bytes n (suc m) k s (omega arith) ∙ ap (listed n (byte_in s)) o)

-- a turn: lane i of the part
pub words_step : (s out r : List ℕ) (first i : ℕ) → i * 8 + 8 ≤ length out → r ≡ to_le_bytes w64 (get_or s (first + i) 0) → length r ≡ 8
    → take (i * 8) out ≡ listed (i * 8) (byte_in s) (8 * first) → take ((i + 1) * 8) (put_mid (i * 8) 8 out r) ≡ listed ((i + 1) * 8) (byte_in s) (8 * first)
words_step s out r first i l e long is =
    let o : 8 * (first + i) + 0 ≡ 8 * first + i * 8 = omega arith in
    let n : (i + 1) * 8 ≡ i * 8 + 8 = omega arith in
    rw n (take-put_mid (i * 8) 8 out r (i * 8 + 8) (omega arith) (omega arith)
    ∙ ap₂ ◌++◌ is (e ∙ word-bytes (get_or s (first + i) 0) ∙ lane-bytes 8 0 (first + i) s (omega arith) ∙ ap (listed 8 (byte_in s)) o)
    ∙ sym (listed_more (i * 8) 8 (byte_in s) (8 * first)))

listed-length : (n : ℕ) (f : ℕ → ℕ) (i : ℕ) → length (listed n f i) ≡ n
unfolding listed
listed-length zero f i = refl
listed-length (suc n) f i = ap suc (listed-length n f (suc i))

-- bytes up to a lane's end, whole lanes, and the bytes that are left
module _ (o r₁ r₂ r₃ : List ℕ) (f : ℕ → ℕ) (at h t : ℕ) (ht : h ≤ t) (to : t ≤ length o) where
  o₁ : List ℕ
  o₁ = r₁ ++ drop h o

  o₂ : List ℕ
  o₂ = put_mid h (t - h) o₁ r₂

  module _
      (e₁ : r₁ ≡ listed (length (take h o)) f at)
      (e₂ : r₂ ≡ listed (length (take (t - h) (drop h (r₁ ++ drop h o)))) f (8 * ((at + h) / 8)))
      (e₃ : r₃ ≡ listed (length (take (length (put_mid h (t - h) (r₁ ++ drop h o) r₂) - t) (drop t (put_mid h (t - h) (r₁ ++ drop h o) r₂)))) f (at + t))
      (from : (t ≡ h) ⊎ (8 * ((at + h) / 8) ≡ at + h)) where
    n₁ : length r₁ ≡ h
    n₁ = ap length e₁ ∙ listed-length _ f at ∙ length-take-le h o (omega arith)

    l₁ : length o₁ ≡ length o
    unfolding o₁
    l₁ = length-append r₁ (drop h o) ∙ ap₂ ◌+◌ n₁ (length-drop h o) ∙ let e : h + (length o - h) ≡ length o = omega arith in e

    mid : length (take (t - h) (drop h o₁)) ≡ t - h
    mid = length-take-le (t - h) (drop h o₁) (omega (arith, length-drop h o₁, l₁))

    n₂ : length r₂ ≡ t - h
    unfolding o₁
    n₂ = ap length e₂ ∙ listed-length _ f _ ∙ mid

    l₂ : length o₂ ≡ length o
    unfolding o₂
    l₂ = same_len_mid h (t - h) o₁ r₂ (n₂ ∙ sym mid) ∙ l₁

    end : length (take (length o₂ - t) (drop t o₂)) ≡ length o₂ - t
    end = length-take-le (length o₂ - t) (drop t o₂) (omega (arith, length-drop t o₂))

    n₃ : length r₃ ≡ length o₂ - t
    unfolding o₁ o₂
    n₃ = ap length e₃ ∙ listed-length _ f _ ∙ end

    first : take h o₁ ≡ r₁
    unfolding o₁
    first = take_at r₁ (drop h o) h n₁

    two : take t o₂ ≡ r₁ ++ r₂
    unfolding o₂
    two =
        let e : t ≡ h + (t - h) = omega arith in
        ap (λ k. take k o₂) e ∙ take-put_mid h (t - h) o₁ r₂ (h + (t - h)) (omega (arith, n₂)) (omega (arith, l₁)) ∙ ap (λ l. l ++ r₂) first

    three : put_mid t (length o₂ - t) o₂ r₃ ≡ r₁ ++ r₂ ++ r₃
    three =
        let all : t + (length o₂ - t) ≡ length o₂ = omega (arith, l₂) in
        let same : length (put_mid t (length o₂ - t) o₂ r₃) ≡ length o₂ = same_len_mid t (length o₂ - t) o₂ r₃ (n₃ ∙ sym end) in
        sym (take_all (t + (length o₂ - t)) (put_mid t (length o₂ - t) o₂ r₃) (omega arith))
        ∙ take-put_mid t (length o₂ - t) o₂ r₃ (t + (length o₂ - t)) (omega (arith, n₃)) (omega arith) ∙ ap (λ l. l ++ r₃) two

    g₂ : r₂ ≡ listed (t - h) f (at + h)
    unfolding listed o₁
    g₂ =
        let none : t ≡ h → t - h ≡ 0 = λ e. omega arith in
        e₂ ∙ ap (λ n. listed n f (8 * ((at + h) / 8))) mid
        ∙ ⊎_elim
        (λ (e : t ≡ h). ap (λ n. listed n f (8 * ((at + h) / 8))) (none e) ∙ sym (ap (λ n. listed n f (at + h)) (none e)))
        (λ (e : 8 * ((at + h) / 8) ≡ at + h). ap (listed (t - h) f) e)
        from

    g₃ : r₃ ≡ listed (length o - t) f (at + t)
    unfolding o₁ o₂
    g₃ = e₃ ∙ ap (λ n. listed n f (at + t)) (end ∙ ap (λ n. n - t) l₂)

    pub three-given : put_mid t (length (put_mid h (t - h) (r₁ ++ drop h o) r₂) - t) (put_mid h (t - h) (r₁ ++ drop h o) r₂) r₃ ≡ listed (length o) f at
    unfolding o₁ o₂
    three-given =
        let a : h + (t - h) ≡ t = omega arith in
        let b : t + (length o - t) ≡ length o = omega arith in
        let g₁ : r₁ ≡ listed h f at = e₁ ∙ ap (λ n. listed n f at) (length-take-le h o (omega arith)) in
        three ∙ ap₂ ◌++◌ (ap₂ ◌++◌ g₁ g₂ ∙ sym (listed_more h (t - h) f at) ∙ ap (λ n. listed n f at) a) g₃
        ∙ sym (listed_more t (length o - t) f at) ∙ ap (λ n. listed n f at) b
