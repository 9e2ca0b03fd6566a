-- Framed sections read back; and frames one after the other are one frame.
-- Assumes nothing.
use mathlib.Core.Path.{◌≡◌, refl, sym, ap, ◌∙◌}
use mathlib.Core.Bool.{true}
use mathlib.Core.List.{List, [], ◌∷◌, ◌++◌, map, append_assoc}
use Prim.Native.Nat.{ℕ, zero, suc, ◌+◌, ◌*◌, ◌/◌, ◌%◌, ◌≤◌, ◌<◌}
use native.Mathlib.Nat.{div-div-eq-div-mul}
use native.Mathlib.Omega.{arith}
use lib.Dec.{eqb, leb}
use lib.ListN.{length, get_or, take, drop, length-append}
use lib.Seq.{take_at}
use Rattle.protocol.specs.Frames.{num2, num4, count4, frame, framed, section_no, framed_length}
use Rattle.theorems.proofs.TestLaws.{eqb_same, leb_yes, both_true}
use Rattle.theorems.proofs.ListLaws.{drop-append}

digits : (x y z t : ℕ) → y ≡ x / 256 → z ≡ y / 256 → t ≡ z / 256 → x < 4294967296 → x % 256 + y % 256 * 256 + (z % 256 + t % 256 * 256) * 65536 ≡ x
digits x y z t a b c h = omega (arith, last)
  where
    last : t % 256 ≡ t
    last = omega arith

pub count-back : (x : ℕ) (t : List ℕ) → x < 4294967296 → num4 (count4 x ++ t) 0 ≡ x
unfolding num4 num2 count4
count-back x t h =
    let a : x / 65536 ≡ x / 256 / 256 = sym (div-div-eq-div-mul x 256 256) in
    let b : x / 16777216 ≡ x / 256 / 256 / 256 = sym (div-div-eq-div-mul x 65536 256) ∙ ap (λ y. y / 256) a in
    rw (a, b) (digits x (x / 256) (x / 256 / 256) (x / 256 / 256 / 256) refl refl refl h)

-- each section's count fits four bytes
abbrev pub Short : List (List ℕ) → Type 0
Short [] = Unit {0}
Short (s ∷ ss) = (length s < 4294967296) × Short ss

pub frame_skip : (x : ℕ) (s t : List ℕ) → drop (4 + length s) (count4 x ++ (s ++ t)) ≡ t
unfolding count4
frame_skip x s t =
    let e : 4 + length s ≡ suc (suc (suc (suc (length s + 0)))) = omega arith in
    rw e (drop-append s t (length s) 0 refl)

fits : (x : ℕ) (s t : List ℕ) → 4 + length s ≤ length (count4 x ++ (s ++ t))
unfolding count4
fits x s t = omega (arith, length-append s t)

take-front : (x : ℕ) (s t : List ℕ) → take (length s) (drop 4 (count4 x ++ (s ++ t))) ≡ s
unfolding count4
take-front x s t = take_at s t (length s) refl

pub frame-framed : (ss : List (List ℕ)) → Short ss → framed (map length ss) (frame ss) ≡ true
unfolding framed frame
frame-framed [] h = refl
frame-framed (s ∷ ss) h =
    let f = frame (s ∷ ss) in
    both_true (leb (4 + length s) (length f)) _ (leb_yes (4 + length s) (length f) (fits (length s) s (frame ss)))
    (both_true (eqb (num4 f 0) (length s)) _ (eqb_same (num4 f 0) (length s) (count-back (length s) (s ++ frame ss) h.0))
    (ap (framed (map length ss)) (frame_skip (length s) s (frame ss)) ∙ frame-framed ss h.1))

pub frame-section : (ss : List (List ℕ)) (i : ℕ) → i < length ss → section_no (map length ss) i (frame ss) ≡ get_or ss i []
unfolding section_no frame
frame-section [] i h = absurd (omega arith)
frame-section (s ∷ ss) zero h = take-front (length s) s (frame ss)
frame-section (s ∷ ss) (suc i) h = ap (section_no (map length ss) i) (frame_skip (length s) s (frame ss)) ∙ frame-section ss i (omega arith)

pub frame-append : (ss ts : List (List ℕ)) → frame ss ++ frame ts ≡ frame (ss ++ ts)
unfolding frame
frame-append [] ts = refl
frame-append (s ∷ ss) ts =
    append_assoc (count4 (length s)) (s ++ frame ss) (frame ts)
    ∙ ap (λ r. count4 (length s) ++ r) (append_assoc s (frame ss) (frame ts) ∙ ap (λ r. s ++ r) (frame-append ss ts))

length-count4 : (x : ℕ) → length (count4 x) ≡ 4
unfolding count4
length-count4 x = refl

pub length-frame : (ss : List (List ℕ)) → length (frame ss) ≡ framed_length (map length ss)
unfolding frame framed_length
length-frame [] = refl
length-frame (s ∷ ss) =
    length-append (count4 (length s)) (s ++ frame ss) ∙ omega (arith, length-count4 (length s), length-append s (frame ss), length-frame ss)
