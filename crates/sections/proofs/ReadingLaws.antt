-- Reading section after section gives exactly the strings of sections of given lengths, and the sections are those that
-- the definition names.
-- Assumes nothing.
use mathlib.Core.Path.{◌≡◌, sym, ap, ◌∙◌, subst}
use mathlib.Core.Bool.{true}
use mathlib.Core.List.{List, [], ◌∷◌}
use Prim.Native.Nat.{ℕ, zero, suc, ◌+◌, ◌≤◌, ◌<◌}
use native.Mathlib.Nat.{add-sub_cancel_left}
use native.Mathlib.Omega.{arith}
use lib.ListN.{length, get_or, drop}
use lib.Seq.{drop-drop}
use Rattle.protocol.specs.Lists.{table, part}
use Rattle.protocol.specs.Frames.{framed, section_no}
use Rattle.protocol.specs.Alphabet.{Alphabet}
use Rattle.protocol.specs.Shape.{Shape}
use Rattle.protocol.specs.Sections.{lengths, sections_in}
use Rattle.theorems.proofs.TestLaws.{eqb_same, eqb_eq}
use Rattle.sections.specs.Reading.{Reads}
use Rattle.sections.proofs.SectionLaws.{section_is, whole, follow_next, follow_end}

-- the first section, and those after it
first-is : (l : ℕ) (ls s : List ℕ) (at : ℕ) → section_no (l ∷ ls) 0 (drop at s) ≡ part s (at + 4) l
unfolding section_no part
first-is l ls s at = rw drop-drop

next-is : (l : ℕ) (ls s : List ℕ) (at e i : ℕ) → at + (4 + l) ≡ e → section_no (l ∷ ls) (suc i) (drop at s) ≡ section_no ls i (drop e s)
unfolding section_no
next-is l ls s at e i h = rw (drop-drop, h)

pub read_framed : (ls : List ℕ) (ss : List (List ℕ)) (s : List ℕ) (at : ℕ) → Reads s at ls ss → framed ls (drop at s) ≡ true
read_framed [] [] s at h = follow_end s at (omega arith) ∙ eqb_same at (length s) h
read_framed [] (x ∷ ss) s at h = absurd h
read_framed (l ∷ ls) [] s at h = absurd h
read_framed (l ∷ ls) (x ∷ ss) s at (a, e, f, n, x-is, rest) = follow_next l ls s at a e (sym f) n ∙ read_framed ls ss s e rest

pub read-sections : (ls : List ℕ) (ss : List (List ℕ)) (s : List ℕ) (at : ℕ) → Reads s at ls ss → (i : ℕ) → i < length ls → get_or ss i [] ≡ section_no ls i (drop at s)
read-sections [] ss s at h i l = absurd (omega arith)
read-sections (l ∷ ls) [] s at h i k = absurd h
read-sections (l ∷ ls) (x ∷ ss) s at (a, e, f, n, x-is, rest) zero k =
    let (p, q, r) = section_is s at a e f in
    x-is ∙ rw (n, p) (sym (first-is l ls s at))
read-sections (l ∷ ls) (x ∷ ss) s at (a, e, f, n, x-is, rest) (suc i) k =
    let (p, q, r) = section_is s at a e f in
    let d : at + (4 + l) ≡ e = omega arith in
    read-sections ls ss s e rest i (omega arith) ∙ sym (next-is l ls s at e i d)

pub framed_read : (ls s : List ℕ) (at : ℕ) → at ≤ length s → framed ls (drop at s) ≡ true → Reads s at ls (table (length ls) (λ i. section_no ls i (drop at s)))
unfolding table
framed_read [] s at b h = eqb_eq at (length s) (sym (follow_end s at b) ∙ h)
framed_read (l ∷ ls) s at b h =
    let f = whole l ls s at h in
    let n = add-sub_cancel_left (at + 4) l in
    let e : ℕ = at + 4 + l in
    let (p, q, r) = section_is s at (at + 4) e (sym f) in
    let d : at + (4 + l) ≡ e = omega arith in
    let rest = framed_read ls s e r (sym (follow_next l ls s at (at + 4) e f n) ∙ h) in
    (at + 4, e, sym f, n, first-is l ls s at ∙ ap (part s (at + 4)) (sym n), subst (λ (f : ℕ → List ℕ). Reads s e ls (table (length ls) f)) (λ j i. sym (next-is l ls s at e i d) j) rest)

-- of a proof: its six sections
pub proof_read : (A : Alphabet) (s : Shape) (proof : List ℕ) → framed (lengths A s) proof ≡ true
    → let p = sections_in A s proof in Reads proof 0 (lengths A s) (p.C ∷ p.d ∷ p.ũ ∷ p.Ṽ ∷ p.QS0 ∷ p.QS1 ∷ [])
unfolding lengths table
proof_read A s proof h = framed_read (lengths A s) proof 0 (omega arith) h
