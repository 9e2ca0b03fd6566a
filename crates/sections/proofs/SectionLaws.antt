-- Reading sections by the counts that stand there is reading a string of sections of given lengths, one after the
-- other.
-- Assumes nothing.
use mathlib.Core.Path.{◌≡◌, refl, sym, ap, ◌∙◌}
use mathlib.Core.Bool.{Bool, true, false, ◌&&◌, false≢true}
use mathlib.Core.List.{List, [], ◌∷◌}
use Prim.Native.Nat.{ℕ, zero, suc, ◌+◌, ◌-◌, ◌≤◌, ◌<◌}
use native.Mathlib.Decide.{dec_le}
use native.Mathlib.Nat.{add-zero, add_assoc}
use native.Mathlib.Numerals.{add-one}
use native.Mathlib.Omega.{arith}
use lib.Dec.{eqb, leb}
use lib.ListN.{length, get_or, take, drop, length-drop}
use lib.Seq.{drop-drop, get_or-drop, drop-cons, drop-length, length-take-le}
use Rattle.algebra.proofs.CountLaws.{and_left, and_right}
use Rattle.protocol.specs.Lists.{part}
use Rattle.protocol.specs.Frames.{num2, num4, framed, section_no, framed_length}
use Rattle.protocol.specs.Reader.{Extent, between, missing, section_at}
use Rattle.theorems.proofs.TestLaws.{eqb_same, eqb_eq, leb_yes, leb_no, leb_le, both_true, bool_iff}

-- ---- one section

here : (s : List ℕ) (at : ℕ) → at + 4 + num4 s at ≤ length s → (leb (at + 4) (length s) && leb (at + 4 + num4 s at) (length s)) ≡ true
here s at h = both_true _ _ (leb_yes (at + 4) (length s) (omega arith)) (leb_yes (at + 4 + num4 s at) (length s) h)

pub section-whole : (s : List ℕ) (at : ℕ) → at + 4 + num4 s at ≤ length s → between (at + 4) (at + 4 + num4 s at) ≡ section_at s at
unfolding section_at
section-whole s at h = rw (section_at, here s at h)

pub and_no : (a b : Bool) → b ≡ false → (a && b) ≡ false
and_no true b h = h
and_no false b h = refl

pub section-cut : (s : List ℕ) (at : ℕ) → length s < at + 4 + num4 s at → missing ≡ section_at s at
unfolding section_at
section-cut s at h = rw (section_at, and_no (leb (at + 4) (length s)) _ (leb_no (at + 4 + num4 s at) (length s) h))

pub section-short : (s : List ℕ) (at : ℕ) → length s < at + 4 → missing ≡ section_at s at
section-short s at h = section-cut s at (omega arith)

start_of : Extent → ℕ
start_of (between a e) = a
start_of missing = 0

end_of : Extent → ℕ
end_of (between a e) = e
end_of missing = 0

is_missing : Extent → Bool
is_missing (between a e) = false
is_missing missing = true

-- what a section that was found says of the string
pub section_is : (s : List ℕ) (at a e : ℕ) → section_at s at ≡ between a e → (a ≡ at + 4) × (e ≡ at + 4 + num4 s at) × (e ≤ length s)
unfolding start_of end_of is_missing
section_is s at a e h = go (dec_le (at + 4 + num4 s at) (length s))
  where
    go : Dec (at + 4 + num4 s at ≤ length s) → (a ≡ at + 4) × (e ≡ at + 4 + num4 s at) × (e ≤ length s)
    go (yes l) =
        let p = sym h ∙ sym (section-whole s at l) in
        let i : e ≡ at + 4 + num4 s at = ap end_of p in
        (ap start_of p, i, omega arith)
    go (no n) = absurd (false≢true (ap is_missing (sym h ∙ sym (section-cut s at (omega arith)))))

pub num4-drop : (s : List ℕ) (d k : ℕ) → num4 (drop d s) k ≡ num4 s (d + k)
unfolding num4 num2
num4-drop s d k =
    let b : (i : ℕ) → get_or (drop d s) i 0 ≡ get_or s (d + i) 0 = λ i. get_or-drop d s i 0 in
    simp (b, add_assoc)

num4-first : (s : List ℕ) (at : ℕ) → num4 (drop at s) 0 ≡ num4 s at
num4-first s at = num4-drop s at 0 ∙ ap (num4 s) (add-zero at)

-- a test that cannot be true is false
pub decided : (b : Bool) → (b ≡ true → ⊥) → b ≡ false
decided true f = absurd (f refl)
decided false f = refl

-- ---- a string of sections, from an index on

module _ (l : ℕ) (ls s : List ℕ) (at : ℕ) where
  head : framed (l ∷ ls) (drop at s) ≡ true → (at + 4 + l ≤ length s) × (num4 s at ≡ l)
  unfolding framed
  head h =
      let fits? = leb (4 + l) (length (drop at s)) in
      let count? = eqb (num4 (drop at s) 0) l in
      let rest? = framed ls (drop (4 + l) (drop at s)) in
      let a : 4 + l ≤ length (drop at s) = leb_le (4 + l) (length (drop at s)) (and_left fits? (count? && rest?) h) in
      (omega (arith, length-drop at s), sym (num4-first s at) ∙ eqb_eq (num4 (drop at s) 0) l (and_left count? rest? (and_right fits? (count? && rest?) h)))

  not-framed : (framed (l ∷ ls) (drop at s) ≡ true → ⊥) → framed (l ∷ ls) (drop at s) ≡ false
  not-framed f = decided (framed (l ∷ ls) (drop at s)) f

  pub whole : framed (l ∷ ls) (drop at s) ≡ true → between (at + 4) (at + 4 + l) ≡ section_at s at
  whole h =
      let g = head h in
      ap (λ n. between (at + 4) (at + 4 + n)) (sym g.1) ∙ section-whole s at (rw g.1 g.0)

  pub follow_missing : missing ≡ section_at s at → framed (l ∷ ls) (drop at s) ≡ false
  unfolding is_missing
  follow_missing m = not-framed (λ h. false≢true (ap is_missing (whole h ∙ sym m)))

  pub follow_other : (a e : ℕ) → between a e ≡ section_at s at → (e - a ≡ l → ⊥) → framed (l ∷ ls) (drop at s) ≡ false
  unfolding start_of end_of
  follow_other a e m n =
      not-framed
      (λ h.
      let p = m ∙ sym (whole h) in
      let i : a ≡ at + 4 = ap start_of p in
      let j : e ≡ at + 4 + l = ap end_of p in
      n (omega arith))

  pub follow_next : (a e : ℕ) → between a e ≡ section_at s at → e - a ≡ l → framed (l ∷ ls) (drop at s) ≡ framed ls (drop e s)
  unfolding framed
  follow_next a e m n =
      let (i, j, k) = section_is s at a e (sym m) in
      let c : num4 s at ≡ l = omega arith in
      let q : at + (4 + l) ≡ e = omega arith in
      let f : 4 + l ≤ length (drop at s) = omega (arith, length-drop at s) in
      rw (leb_yes (4 + l) (length (drop at s)) f, eqb_same (num4 (drop at s) 0) l (num4-first s at ∙ c), drop-drop, q)

pub follow_end : (s : List ℕ) (at : ℕ) → at ≤ length s → framed [] (drop at s) ≡ eqb at (length s)
unfolding framed
follow_end s at h =
    bool_iff _ _
    (λ e. eqb_same at (length s) (omega (arith, length-drop at s, eqb_eq (length (drop at s)) 0 e)))
    (λ e. eqb_same (length (drop at s)) 0 (omega (arith, length-drop at s, eqb_eq at (length s) e)))

-- ---- a turn of the loop that reads section i of a list of lengths

module _ (ls s : List ℕ) (at i : ℕ) (h : i < length ls) where
  pub turn_missing : missing ≡ section_at s at → framed (drop i ls) (drop at s) ≡ false
  turn_missing m = rw (drop-cons ls i 0 h) (follow_missing (get_or ls i 0) (drop (suc i) ls) s at m)

  pub turn_other : (a e : ℕ) → between a e ≡ section_at s at → (e - a ≡ get_or ls i 0 → ⊥) → framed (drop i ls) (drop at s) ≡ false
  turn_other a e m n = rw (drop-cons ls i 0 h) (follow_other (get_or ls i 0) (drop (suc i) ls) s at a e m n)

  pub turn_next : (a e : ℕ) → between a e ≡ section_at s at → e - a ≡ get_or ls i 0 → framed (drop i ls) (drop at s) ≡ framed (drop (i + 1) ls) (drop e s)
  turn_next a e m n = rw (drop-cons ls i 0 h, add-one) (follow_next (get_or ls i 0) (drop (suc i) ls) s at a e m n)

pub turn_end : (ls s : List ℕ) (at i : ℕ) → i ≡ length ls → at ≤ length s → framed (drop i ls) (drop at s) ≡ eqb at (length s)
turn_end ls s at i e h = rw (e, drop-length) (follow_end s at h)

-- ---- where section i stands

pub length_more : (ls : List ℕ) (j : ℕ) → j < length ls → framed_length (take (suc j) ls) ≡ framed_length (take j ls) + (4 + get_or ls j 0)
unfolding framed_length
length_more [] j h = absurd (omega arith)
length_more (l ∷ ls) zero h = omega arith
length_more (l ∷ ls) (suc j) h = omega (arith, length_more ls j (omega arith))

pub length-up-to : (ls : List ℕ) (j : ℕ) → framed_length (take j ls) ≤ framed_length ls
unfolding framed_length
length-up-to ls zero = omega arith
length-up-to [] (suc j) = omega arith
length-up-to (l ∷ ls) (suc j) = omega (arith, length-up-to ls j)

-- section i ends within a string of sections
pub section-end : (ls : List ℕ) (i : ℕ) → i < length ls → framed_length (take i ls) + 4 + get_or ls i 0 ≤ framed_length ls
section-end ls i h = omega (arith, length_more ls i h, length-up-to ls (suc i))

pub section-part : (ls s : List ℕ) (i : ℕ) → i < length ls → section_no ls i s ≡ part s (framed_length (take i ls) + 4) (get_or ls i 0)
unfolding section_no framed_length part
section-part [] s i h = absurd (omega arith)
section-part (l ∷ ls) s zero h = refl
section-part (l ∷ ls) s (suc i) h =
    let e : 4 + l + (framed_length (take i ls) + 4) ≡ 4 + l + framed_length (take i ls) + 4 = omega arith in
    section-part ls (drop (4 + l) s) i (omega arith) ∙ rw (drop-drop, e)

pub length_part : (s : List ℕ) (at len : ℕ) → at + len ≤ length s → length (part s at len) ≡ len
unfolding part
length_part s at len h = length-take-le len (drop at s) (rw (length-drop at s) (omega arith))

pub framed-length : (ls s : List ℕ) → framed ls s ≡ true → length s ≡ framed_length ls
unfolding framed framed_length
framed-length [] s h = eqb_eq (length s) 0 h
framed-length (l ∷ ls) s h =
    let fits? = leb (4 + l) (length s) in
    let count? = eqb (num4 s 0) l in
    let rest? = framed ls (drop (4 + l) s) in
    let a : 4 + l ≤ length s = leb_le (4 + l) (length s) (and_left fits? (count? && rest?) h) in
    omega (arith, length-drop (4 + l) s, framed-length ls (drop (4 + l) s) (and_right count? rest? (and_right fits? (count? && rest?) h)))
