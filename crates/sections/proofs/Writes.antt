-- Lists that a run of stores makes: four bytes, and one part after another.
-- Assumes nothing.
use mathlib.Core.Path.{◌≡◌, refl, sym, ap, ap₂, ◌∙◌}
use mathlib.Core.List.{List, [], ◌∷◌, ◌++◌, append-nil}
use Prim.Native.Nat.{ℕ, ◌+◌, ◌-◌, ◌≤◌}
use native.Mathlib.Nat.{min-eq_left}
use native.Mathlib.Omega.{arith}
use borrow.Rule.Slice.PartMut.{put_mid}
use lib.ListN.{length, set, take, drop, drop_of_length-le, length-append, length-take, length-drop, replicate, length-replicate}
use lib.Seq.{take_at, drop_at}
use Rattle.protocol.specs.Frames.{count4, frame}
use Rattle.theorems.proofs.FrameLaws.{frame-append}

-- four stores to a list of four
pub four : (l : List ℕ) (a b c d : ℕ) → length l ≡ 4 → set (set (set (set l 0 a) 1 b) 2 c) 3 d ≡ a ∷ b ∷ c ∷ d ∷ []
four [] a b c d h = absurd (omega arith)
four (w ∷ []) a b c d h = absurd (omega arith)
four (w ∷ x ∷ []) a b c d h = absurd (omega arith)
four (w ∷ x ∷ y ∷ []) a b c d h = absurd (omega arith)
four (w ∷ x ∷ y ∷ z ∷ []) a b c d h = refl
four (w ∷ x ∷ y ∷ z ∷ v ∷ l) a b c d h = absurd (omega arith)

-- the last part of a buffer is written after what stands before it
pub seam : (a : ℕ) (p q r : List ℕ) → length p ≡ a → put_mid a (length (p ++ q) - a) (p ++ q) r ≡ p ++ r
seam a p q r e =
    let h : length q ≤ length (p ++ q) - a = simp length-append (omega arith) in
    rw (take_at p q a e, drop_at p q a e, drop_of_length-le q h, append-nil)

-- a count is written, and then its section
pub framed-one : (l : ℕ) (c out x sec : List ℕ) → length c ≡ 4 → c ≡ count4 l → x ≡ sec → length x ≡ l
    → put_mid 4 (length (c ++ drop 4 out) - 4) (c ++ drop 4 out) x ≡ frame (sec ∷ [])
unfolding frame
framed-one l c out x sec four count is long =
    seam 4 c (drop 4 out) x four ∙ ap₂ (λ (p q : List ℕ). p ++ q) (count ∙ ap count4 (sym long ∙ ap length is)) (is ∙ sym (append-nil sec))

-- sections are written, and then others
pub framed-two : (a : ℕ) (p q r : List ℕ) (first second : List (List ℕ)) → length p ≡ a → p ≡ frame first → r ≡ frame second
    → put_mid a (length (p ++ q) - a) (p ++ q) r ≡ frame (first ++ second)
framed-two a p q r first second long is then = seam a p q r long ∙ ap₂ (λ (x y : List ℕ). x ++ y) is then ∙ frame-append first second

-- a part that runs to the end
pub mid-end : (a : ℕ) (p q : List ℕ) → length p ≡ a → length (take (length (p ++ q) - a) (drop a (p ++ q))) ≡ length q
mid-end a p q e = rw (drop_at p q a e) (simp (length-take, length-append) (omega arith))

pub rest-length : (a l : ℕ) (p out : List ℕ) → length p ≡ a → length out ≡ a + l → length (take (length (p ++ drop a out) - a) (drop a (p ++ drop a out))) ≡ l
rest-length a l p out e long = mid-end a p (drop a out) e ∙ length-drop a out ∙ omega (arith, long)

pub part_starts : (a : ℕ) (p q : List ℕ) → length p ≡ a → a ≤ length (p ++ q)
part_starts a p q e = rw (length-append p q) (omega (arith, e))

-- the first part of a buffer of zeros
abbrev pub zeros : ℕ → List ℕ
zeros m = replicate m 0

pub prefix_length : (n m : ℕ) → n ≤ m → length (take n (zeros m)) ≡ n
prefix_length n m h = length-take n (zeros m) ∙ rw (length-replicate {A = ℕ} m 0) (min-eq_left h)

pub take-length : (n : ℕ) (l : List ℕ) → n ≤ length l → length (take n l) ≡ n
take-length n l h = length-take n l ∙ min-eq_left h
