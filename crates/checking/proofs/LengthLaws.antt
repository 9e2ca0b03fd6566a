-- Sections read by the counts that stand there: their lengths, one after the other, and what is left to be read.
-- Assumes nothing.
use mathlib.Core.Path.{◌≡◌, refl, sym, ap, ap₂, ◌∙◌}
use mathlib.Core.Bool.{false}
use mathlib.Core.List.{List, [], ◌∷◌, ◌++◌}
use Prim.Native.Nat.{ℕ, zero, suc, ◌+◌, ◌-◌, ◌≤◌, ◌<◌}
use native.Mathlib.Numerals.{add-one}
use native.Mathlib.Omega.{arith}
use lib.Dec.{eqb}
use lib.ListN.{length, set, take, drop}
use lib.Seq.{drop-drop, take-suc-set}
use Rattle.protocol.specs.Frames.{num4, framed, framed_length}
use Rattle.protocol.specs.Reader.{between, missing, section_at}
use Rattle.protocol.specs.Check.{lengths_in}
use Rattle.sections.proofs.SectionLaws.{num4-drop, section_is, follow_missing, follow_next, follow_end}

-- ---- what is left to be read

module _ (s : List ℕ) (n at : ℕ) where
  pub read_missing : missing ≡ section_at s at → framed (lengths_in (suc n) (drop at s)) (drop at s) ≡ false
  unfolding lengths_in
  read_missing m = follow_missing (num4 (drop at s) 0) (lengths_in n (drop (4 + num4 (drop at s) 0) (drop at s))) s at m

  -- the count that stands there is the section's length
  pub read_count : (a e : ℕ) → between a e ≡ section_at s at → e - a ≡ num4 s at
  read_count a e m =
      let (i, j, k) = section_is s at a e (sym m) in
      omega arith

  pub read_next : (a e : ℕ) → between a e ≡ section_at s at → framed (lengths_in (suc n) (drop at s)) (drop at s) ≡ framed (lengths_in n (drop e s)) (drop e s)
  unfolding lengths_in
  read_next a e m =
      let l : ℕ = num4 (drop at s) 0 in
      let z : num4 (drop at s) 0 ≡ num4 s (at + 0) = num4-drop s at 0 in
      let w : at + 0 ≡ at = omega arith in
      let c : e - a ≡ l = read_count a e m ∙ ap (num4 s) (sym w) ∙ sym z in
      let (i, j, k) = section_is s at a e (sym m) in
      let q : at + (4 + l) ≡ e = omega (arith, read_count a e m) in
      follow_next l (lengths_in n (drop (4 + l) (drop at s))) s at a e m c
      ∙ ap (λ t. framed (lengths_in n t) (drop e s)) (drop-drop (4 + l) at s ∙ ap (λ k. drop k s) q)

-- a turn of the loop that has read i of n sections

pub turn_first : (s : List ℕ) (n : ℕ) → framed (lengths_in n s) s ≡ framed (lengths_in (n - 0) (drop 0 s)) (drop 0 s)
turn_first s n =
    let z : n ≡ n - 0 = omega arith in
    ap (λ k. framed (lengths_in k s) s) z

module _ (s : List ℕ) (n i at : ℕ) (h : i < n) where
  one_left : n - i ≡ suc (n - (i + 1))
  one_left = omega arith

  pub turn_missing : missing ≡ section_at s at → framed (lengths_in (n - i) (drop at s)) (drop at s) ≡ false
  turn_missing m = ap (λ k. framed (lengths_in k (drop at s)) (drop at s)) one_left ∙ read_missing s (n - (i + 1)) at m

  pub turn_next : (a e : ℕ) → between a e ≡ section_at s at → framed (lengths_in (n - i) (drop at s)) (drop at s) ≡ framed (lengths_in (n - (i + 1)) (drop e s)) (drop e s)
  turn_next a e m = ap (λ k. framed (lengths_in k (drop at s)) (drop at s)) one_left ∙ read_next s (n - (i + 1)) at a e m

pub turn_end : (s : List ℕ) (n i at : ℕ) → i ≡ n → at ≤ length s → framed (lengths_in (n - i) (drop at s)) (drop at s) ≡ eqb at (length s)
unfolding lengths_in
turn_end s n i at e h =
    let z : n - i ≡ 0 = omega arith in
    ap (λ k. framed (lengths_in k (drop at s)) (drop at s)) z ∙ follow_end s at h

-- ---- the lengths so far

length-snoc : (ls : List ℕ) (l : ℕ) → framed_length (ls ++ (l ∷ [])) ≡ framed_length ls + (4 + l)
unfolding framed_length
length-snoc [] l = omega arith
length-snoc (x ∷ ls) l = omega (arith, length-snoc ls l)

lengths_snoc : (i : ℕ) (s : List ℕ) → lengths_in (suc i) s ≡ lengths_in i s ++ (num4 s (framed_length (lengths_in i s)) ∷ [])
unfolding lengths_in framed_length
lengths_snoc zero s = refl
lengths_snoc (suc i) s =
    let d : ℕ = 4 + num4 s 0 in
    ap (λ t. num4 s 0 ∷ t) (lengths_snoc i (drop d s) ∙ ap (λ k. lengths_in i (drop d s) ++ (k ∷ [])) (num4-drop s d (framed_length (lengths_in i (drop d s)))))

module _ (s ls : List ℕ) (i at a e : ℕ) (so_far : take i ls ≡ lengths_in i s) (here : at ≡ framed_length (lengths_in i s)) (m : between a e ≡ section_at s at) where
  count-is : e - a ≡ num4 s (framed_length (lengths_in i s))
  count-is = read_count s 0 at a e m ∙ ap (num4 s) here

  pub lengths_more : i < length ls → take (i + 1) (set ls i (e - a)) ≡ lengths_in (i + 1) s
  lengths_more h =
      rw (add-one i) (take-suc-set ls i (e - a) h ∙ ap₂ (λ t k. t ++ (k ∷ [])) so_far count-is ∙ sym (lengths_snoc i s))

  pub end_more : e ≡ framed_length (lengths_in (i + 1) s)
  end_more =
      let (p, q, r) = section_is s at a e (sym m) in
      let x : framed_length (lengths_in (suc i) s) ≡ framed_length (lengths_in i s) + (4 + num4 s (framed_length (lengths_in i s))) = ap framed_length (lengths_snoc i s) ∙ length-snoc (lengths_in i s) _ in
      let y : e ≡ framed_length (lengths_in (suc i) s) = omega (arith, read_count s 0 at a e m, count-is) in
      rw (add-one i) y
