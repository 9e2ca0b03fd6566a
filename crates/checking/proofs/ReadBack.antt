-- Six strings, each after its count, are read back; too much, too little and more after them is unread.
-- Assumes nothing.
use mathlib.Core.Path.{◌≡◌, refl, sym, ap, ap₂, ◌∙◌}
use mathlib.Core.Bool.{true, ◌&&◌}
use mathlib.Core.List.{List, [], ◌∷◌, ◌++◌, map, append_assoc, append-nil}
use Prim.Native.Nat.{ℕ, zero, suc, ◌+◌, ◌≤◌, ◌<◌}
use native.Mathlib.Omega.{arith}
use lib.Dec.{eqb, leb}
use lib.ListN.{length, get_or, take, drop, length-append, take-append-drop, get_or-append}
use lib.Seq.{drop-append-le, length-take-le}
use Rattle.algebra.proofs.CountLaws.{and_left, and_right}
use Rattle.protocol.specs.Frames.{num2, num4, count4, frame, framed, section_no, framed_length}
use Rattle.protocol.specs.Calls.{verify_answer}
use Rattle.protocol.specs.Check.{eight, answered, lengths_in, check_of}
use Rattle.theorems.proofs.TestLaws.{leb_le}
use Rattle.theorems.proofs.FrameLaws.{Short, count-back, frame_skip, frame-framed, frame-section, length-frame}
use Rattle.sections.proofs.SectionLaws.{framed-length, decided}
use Rattle.checking.specs.ReadBack.{six, ReadBack, TooLong, LeftOver, CutShort}
use Rattle.checking.proofs.OutcomeLaws.{too_long, not-framed, read_whole, same_answer}

-- ---- the lengths that are read

lengths_read : (ss : List (List ℕ)) (over : List ℕ) → Short ss → lengths_in (length ss) (frame ss ++ over) ≡ map length ss
unfolding lengths_in frame
lengths_read [] over h = refl
lengths_read (s ∷ ss) over h =
    let f : List ℕ = count4 (length s) ++ (s ++ frame ss) ++ over in
    let g : f ≡ count4 (length s) ++ (s ++ (frame ss ++ over)) = append_assoc (count4 (length s)) (s ++ frame ss) over ∙ ap (λ t. count4 (length s) ++ t) (append_assoc s (frame ss) over) in
    let c : num4 f 0 ≡ length s = ap (λ t. num4 t 0) g ∙ count-back (length s) (s ++ (frame ss ++ over)) h.0 in
    let d : drop (4 + num4 f 0) f ≡ frame ss ++ over = ap₂ (λ n t. drop (4 + n) t) c g ∙ frame_skip (length s) s (frame ss ++ over) in
    ap₂ (λ x xs. x ∷ xs) c (ap (lengths_in (length ss)) d ∙ lengths_read ss over h.1)

-- reading a string that has its sections whole does not look at what stands after it
num4-before : (s over : List ℕ) → 4 ≤ length s → num4 (s ++ over) 0 ≡ num4 s 0
unfolding num4 num2
num4-before s over h =
    let b : (i : ℕ) → i < length s → get_or (s ++ over) i 0 ≡ get_or s i 0 = λ i l. get_or-append s over 0 i l in
    rw (b 0 (omega arith), b 1 (omega arith), b 2 (omega arith), b 3 (omega arith))

lengths-before : (n : ℕ) (s over : List ℕ) → framed (lengths_in n s) s ≡ true → lengths_in n (s ++ over) ≡ lengths_in n s
unfolding lengths_in framed
lengths-before zero s over h = refl
lengths-before (suc n) s over h =
    let l : ℕ = num4 s 0 in
    let fits? = leb (4 + l) (length s) in
    let count? = eqb l l in
    let rest? = framed (lengths_in n (drop (4 + l) s)) (drop (4 + l) s) in
    let a : 4 + l ≤ length s = leb_le (4 + l) (length s) (and_left fits? (count? && rest?) h) in
    let c : num4 (s ++ over) 0 ≡ l = num4-before s over (omega arith) in
    let d : drop (4 + num4 (s ++ over) 0) (s ++ over) ≡ drop (4 + l) s ++ over = ap (λ k. drop (4 + k) (s ++ over)) c ∙ drop-append-le (4 + l) s over a in
    ap₂ (λ x xs. x ∷ xs) c (ap (lengths_in n) d ∙ lengths-before n (drop (4 + l) s) over (and_right count? rest? (and_right fits? (count? && rest?) h)))

-- ---- six sections

short-by : (ss : List (List ℕ)) → framed_length (map length ss) ≤ 65536 → Short ss
unfolding framed_length
short-by [] h = tt
short-by (s ∷ ss) h = (omega arith, short-by ss (omega arith))

module _ (k d h x o p : List ℕ) (small : length (six k d h x o p) ≤ 65536) where
  abbrev ss : List (List ℕ)
  ss = k ∷ d ∷ h ∷ x ∷ o ∷ p ∷ []

  abbrev ls : List ℕ
  ls = map length ss

  total : framed_length ls ≤ 65536
  total = rw (← length-frame ss) small

  short : Short ss
  short = short-by ss total

  lengths_are : lengths_in 6 (frame ss) ≡ ls
  lengths_are = ap (lengths_in 6) (sym (append-nil (frame ss))) ∙ lengths_read ss [] short

  whole : framed (lengths_in 6 (frame ss)) (frame ss) ≡ true
  whole = ap (λ l. framed l (frame ss)) lengths_are ∙ frame-framed ss short

  at : (i : ℕ) → i < 6 → section_no (lengths_in 6 (frame ss)) i (frame ss) ≡ get_or ss i []
  at i l = ap (λ l. section_no l i (frame ss)) lengths_are ∙ frame-section ss i l

  back : check_of eight (frame ss) ≡ answered (verify_answer eight k d h x o p)
  back =
      sym (read_whole (frame ss) small whole)
      ∙ ap answered (same_answer (at 0 (omega arith)) (at 1 (omega arith)) (at 2 (omega arith)) (at 3 (omega arith)) (at 4 (omega arith)) (at 5 (omega arith)))

  over-not : (over : List ℕ) → 0 < length over → framed (lengths_in 6 (frame ss ++ over)) (frame ss ++ over) ≡ true → ⊥
  over-not over some f =
      let l : length (frame ss ++ over) ≡ framed_length ls = framed-length (lengths_in 6 (frame ss ++ over)) (frame ss ++ over) f ∙ ap framed_length (lengths_read ss over short) in
      absurd (omega (arith, length-append (frame ss) over, length-frame ss))

  cut-not : (n : ℕ) → n < length (frame ss) → framed (lengths_in 6 (take n (frame ss))) (take n (frame ss)) ≡ true → ⊥
  cut-not n less f =
      let c : List ℕ = take n (frame ss) in
      let e : lengths_in 6 c ≡ ls = sym (lengths-before 6 c (drop n (frame ss)) f) ∙ ap (lengths_in 6) (take-append-drop n (frame ss)) ∙ lengths_are in
      let l : length c ≡ framed_length ls = framed-length (lengths_in 6 c) c f ∙ ap framed_length e in
      absurd (omega (arith, length-take-le n (frame ss) (omega arith), length-frame ss))

pub read_back : ReadBack
read_back = back

pub too_long_unread : TooLong
too_long_unread s h = sym (too_long s h)

pub left-over-unread : LeftOver
left-over-unread k d h x o p over small some = sym (not-framed _ (decided _ (over-not k d h x o p small over some)))

pub cut-short-unread : CutShort
cut-short-unread k d h x o p n small less = sym (not-framed _ (decided _ (cut-not k d h x o p small n less)))
