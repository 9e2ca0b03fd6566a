-- In a string of sections of given lengths, the reader finds each where the lengths say that it stands; and what reads
-- back as sections, the reader takes one after the other. Question 12 is asked one section at a time: the reader's
-- answer, the section's length, and what is left.
-- Assumes nothing.
use mathlib.Core.Path.{◌≡◌, refl, sym, ap, ◌∙◌}
use mathlib.Core.Bool.{Bool, true, false, ◌&&◌, and_assoc}
use mathlib.Core.List.{List, [], ◌∷◌}
use Prim.Native.Nat.{ℕ, zero, suc, ◌+◌, ◌-◌, ◌<◌, ◌≤◌}
use native.Mathlib.Nat.{add-sub_cancel_left}
use native.Mathlib.Decide.{ℕ_discrete}
use native.Mathlib.Omega.{arith}
use lib.Dec.{eqb, leb}
use lib.ListN.{length, get_or, set, take, drop}
use lib.Seq.{drop-drop, drop-cons, get_or-set_same, get_or-set_other}
use Rattle.algebra.proofs.CountLaws.{and_right}
use Rattle.protocol.specs.Lists.{part}
use Rattle.protocol.specs.Frames.{num4, framed, section_no, framed_length}
use Rattle.protocol.specs.Reader.{Extent, between, missing, section_at}
use denote.Ref.{Bor}
use Rattle.std.specs.Prelude.{Result, Ok, Err}
use Rattle.std.specs.Result.{IsErrAnd}
use Rattle.std.proofs.lemmas.Result.{IfOk-at_ok}
use Rattle.protocol.specs.Answers.{Answer, accepted, refused, is_accepted, question, ask}
use Rattle.theorems.proofs.TestLaws.{eqb_same, eqb-other}
use Rattle.format.specs.Verdict.{and_then, told}
use Rattle.format.specs.declared.Refusal.{Refusal}
use Rattle.format.proofs.AskLaws.{refused-not, said_yes, same_first, left_and}
use Rattle.sections.proofs.SectionLaws.{whole, section_is, and_no, follow_missing, follow_other, follow_next, turn_end, length_more, section-end, section-part, length_part, framed-length}
use Rattle.sections.specs.Taking.{answer_on, next_on, bytes_on, answer_at, next_at, bytes_at, read_to}
use Rattle.sections.specs.Moved.{moved_on, has, Takes}
use Rattle.sections.specs.declared.reader.Reader.{Reader}

-- what is left after i sections is the sections after them
framed-from : (ls s : List ℕ) (i : ℕ) → framed ls s ≡ true → framed (drop i ls) (drop (framed_length (take i ls)) s) ≡ true
unfolding framed framed_length
framed-from ls s zero h = h
framed-from [] s (suc i) h = h
framed-from (l ∷ ls) s (suc i) h =
    let fits? = leb (4 + l) (length s) in
    let count? = eqb (num4 s 0) l in
    let rest? = framed ls (drop (4 + l) s) in
    let e = framed-from ls (drop (4 + l) s) i (and_right count? rest? (and_right fits? (count? && rest?) h)) in
    ap (framed (drop i ls)) (sym (drop-drop (framed_length (take i ls)) (4 + l) s)) ∙ e

module _ (ls s : List ℕ) (i : ℕ) (h : i < length ls) (f : framed ls s ≡ true) where
  at : ℕ
  at = framed_length (take i ls)

  pub section_read : bytes_at s (framed_length (take i ls)) ≡ section_no ls i s
  unfolding bytes_at at
  section_read =
      let l = get_or ls i 0 in
      let g : framed (l ∷ drop (suc i) ls) (drop at s) ≡ true = ap (λ k. framed k (drop at s)) (sym (drop-cons ls i 0 h)) ∙ framed-from ls s i f in
      ap (bytes_on s) (sym (whole l (drop (suc i) ls) s at g)) ∙ (ap (part s (at + 4)) (add-sub_cancel_left (at + 4) l) ∙ sym (section-part ls s i h))

  pub section-length : length (section_no ls i s) ≡ get_or ls i 0
  section-length = ap length (section-part ls s i h) ∙ length_part s (framed_length (take i ls) + 4) (get_or ls i 0) (omega (arith, section-end ls i h, framed-length ls s f))

-- ---- one step of the reader, and the question on all

-- a section is there, and has its length, and the others follow it
section-first : (l : ℕ) (ls s : List ℕ) (at : ℕ) → framed (l ∷ ls) (drop at s) ≡ (has l s at && framed ls (drop (next_at s at) s))
unfolding has answer_at bytes_at next_at
section-first l ls s at = go (section_at s at) refl
  where
    go : (x : Extent) → section_at s at ≡ x → framed (l ∷ ls) (drop at s) ≡ (is_accepted (answer_on (section_at s at)) && eqb (length (bytes_on s (section_at s at))) l && framed ls (drop (next_on at (section_at s at)) s))
    go missing e = rw e (follow_missing l ls s at (sym e))
    go (between a z) e = rw e (same (ℕ_discrete (z - a) l))
      where
        long : length (part s a (z - a)) ≡ z - a
        long = let (i, j, k) = section_is s at a z e in length_part s a (z - a) (omega arith)

        same : Dec (z - a ≡ l) → framed (l ∷ ls) (drop at s) ≡ (eqb (length (part s a (z - a))) l && framed ls (drop z s))
        same (yes m) = follow_next l ls s at a z (sym e) m ∙ sym (ap (λ b. b && framed ls (drop z s)) (eqb_same (length (part s a (z - a))) l (long ∙ m)))
        same (no n) = follow_other l ls s at a z (sym e) n ∙ sym (ap (λ b. b && framed ls (drop z s)) (eqb-other (length (part s a (z - a))) l (λ m. n (sym long ∙ m))))

pub within : (s : List ℕ) (at : ℕ) → at ≤ length s → next_at s at ≤ length s
unfolding next_at
within s at h = go (section_at s at) refl
  where
    go : (x : Extent) → section_at s at ≡ x → next_on at (section_at s at) ≤ length s
    go missing e = rw e h
    go (between a z) e = rw e (section_is s at a z e).2

-- what the reader says of a section, and then a question of the same number
asked-after : (s : List ℕ) (at : ℕ) (b : Bool) → and_then (answer_at s at) (ask (question b 12 0 ∷ [])) ≡ ask (question (is_accepted (answer_at s at) && b) 12 0 ∷ [])
unfolding answer_at and_then ask
asked-after s at b = go (section_at s at)
  where
    go : (x : Extent) → and_then (answer_on x) (ask (question b 12 0 ∷ [])) ≡ ask (question (is_accepted (answer_on x) && b) 12 0 ∷ [])
    go missing = refl
    go (between a z) = refl

-- and that question is on its length
asked_has : (l : ℕ) (s : List ℕ) (at : ℕ) → and_then (answer_at s at) (ask (question (eqb (length (bytes_at s at)) l) 12 0 ∷ [])) ≡ ask (question (has l s at) 12 0 ∷ [])
unfolding has
asked_has l s at = asked-after s at (eqb (length (bytes_at s at)) l)

pub then_length : (l : ℕ) (s : List ℕ) (at : ℕ) {v r : Answer} → v ≡ answer_at s at → r ≡ and_then v (ask (question (eqb (length (bytes_at s at)) l) 12 0 ∷ [])) → r ≡ ask (question (has l s at) 12 0 ∷ [])
then_length l s at e f = f ∙ ap (λ v. and_then v (ask (question (eqb (length (bytes_at s at)) l) 12 0 ∷ []))) e ∙ asked_has l s at

-- after a refusal it has read no further
pub stays : (s : List ℕ) (at : ℕ) {i p : ℕ} → refused i p ≡ answer_at s at → at ≡ next_at s at
unfolding answer_at next_at
stays s at h = go (section_at s at) h
  where
    go : (x : Extent) {i p : ℕ} → refused i p ≡ answer_on x → at ≡ next_on at x
    go missing h = refl
    go (between a z) h = absurd (refused-not h refl)

refused-stays : (x : Answer) {a : Answer} {n p : ℕ} → refused n p ≡ a → a ≡ and_then a x
unfolding and_then
refused-stays x e = sym e ∙ ap (λ a. and_then a x) e

-- a turn of the reader's: from index at on the lengths from i on have to follow
module _ (ls s : List ℕ) (at i : ℕ) (h : i < length ls) (left : framed ls s ≡ framed (drop i ls) (drop at s)) where
  l : ℕ
  l = get_or ls i 0

  others : Bool
  others = framed (drop (suc i) ls) (drop (next_at s at) s)

  first : framed ls s ≡ (has (get_or ls i 0) s at && framed (drop (suc i) ls) (drop (next_at s at) s))
  first = left ∙ ap (λ k. framed k (drop at s)) (drop-cons ls i 0 h) ∙ section-first (get_or ls i 0) (drop (suc i) ls) s at

  one_by_one : framed ls s ≡ (is_accepted (answer_at s at) && (eqb (length (bytes_at s at)) l && others))
  unfolding l others has
  one_by_one = first ∙ and_assoc (is_accepted (answer_at s at)) (eqb (length (bytes_at s at)) l) others

  -- it leaves with the reader's own refusal
  pub read_refused : {n p : ℕ} → refused n p ≡ answer_at s at → answer_at s at ≡ ask (question (framed ls s) 12 0 ∷ [])
  read_refused e =
      let b = eqb (length (bytes_at s at)) l && others in
      refused-stays (ask (question b 12 0 ∷ [])) e ∙ asked-after s at b ∙ ap (λ b. ask (question b 12 0 ∷ [])) (sym one_by_one)

  -- a section of another length
  pub read_other : (length (bytes_at s at) ≡ get_or ls i 0 → ⊥) → framed ls s ≡ false
  unfolding l
  read_other n = one_by_one ∙ and_no (is_accepted (answer_at s at)) _ (ap (λ b. b && others) (eqb-other (length (bytes_at s at)) (get_or ls i 0) n))

  -- the reader goes on
  pub read_next : answer_at s at ≡ accepted → length (bytes_at s at) ≡ get_or ls i 0 → framed ls s ≡ framed (drop (suc i) ls) (drop (next_at s at) s)
  unfolding l others
  read_next p e =
      one_by_one ∙ ap (λ b. b && (eqb (length (bytes_at s at)) (get_or ls i 0) && others)) (ap is_accepted p)
      ∙ ap (λ b. b && others) (eqb_same (length (bytes_at s at)) (get_or ls i 0) e)

-- of a lent proof, the reader after i sections
abbrev pub after : Bor (List ℕ) → ℕ → Reader
after p i = record { proof = p; at = read_to p.now i }

-- a reader that has read i sections of these lengths: the lengths that are left have still to follow
pub record Passed (ls : List ℕ) (p : Bor (List ℕ)) (i : ℕ) (r : Reader) : Type 0 where
  pub stands : r ≡ after p i
  pub inside : read_to p.now i ≤ length p.now
  pub follows : framed ls p.now ≡ framed (drop i ls) (drop (read_to p.now i) p.now)

pub none_passed : (ls : List ℕ) (p : Bor (List ℕ)) → Passed ls p 0 (record { proof = p; at = 0 })
unfolding read_to
none_passed ls p = record { stands = refl; inside = omega arith; follows = refl }

module _ {ls : List ℕ} {p : Bor (List ℕ)} {i : ℕ} {r : Reader} (h : i < length ls) (was : Passed ls p i r) where
  split : framed ls p.now ≡ (has (get_or ls i 0) p.now (read_to p.now i) && framed (drop (suc i) ls) (drop (read_to p.now (suc i)) p.now))
  unfolding read_to
  split = first ls p.now (read_to p.now i) i h was.follows

  told_has : {a : Answer} → a ≡ ask (question (has (get_or ls i 0) r.proof.now r.at) 12 0 ∷ []) → a ≡ ask (question (has (get_or ls i 0) p.now (read_to p.now i)) 12 0 ∷ [])
  told_has e = e ∙ ap (λ (x : Reader). ask (question (has (get_or ls i 0) x.proof.now x.at) 12 0 ∷ [])) was.stands

  -- one section more
  pub one_more : {r' : Reader} {t : Result (Bor (List ℕ)) Refusal} {x : Bor (List ℕ)} → Takes (get_or ls i 0) r r' t → t ≡ Ok x → Passed ls p (suc i) r'
  unfolding read_to
  one_more takes is =
      let y = said_yes (has (get_or ls i 0) p.now (read_to p.now i)) 12 0 (sym (told_has takes.0) ∙ ap told is) in
      record {
        stands = takes.1 ∙ ap moved_on was.stands;
        inside = within p.now (read_to p.now i) was.inside;
        follows = split ∙ ap (λ b. b && framed (drop (suc i) ls) (drop (read_to p.now (suc i)) p.now)) y;
      }

  -- or it leaves with the refusal
  pub one_stops : {U : Type 0} {r' : Reader} {t : Result (Bor (List ℕ)) Refusal} {f : Refusal} (q : Result U Refusal) → Takes (get_or ls i 0) r r' t → t ≡ Err f → IsErrAnd q (λ y. y ≡ f)
      → told q ≡ ask (question (framed ls p.now) 12 0 ∷ [])
  one_stops q takes e is =
      same_first 12 0 [] (sym split) (left_and _ (framed (drop (suc i) ls) (drop (read_to p.now (suc i)) p.now)) 12 q (told_has takes.0) e is)

  -- the section that it took
  pub one_is : {r' : Reader} {t : Result (Bor (List ℕ)) Refusal} {x : Bor (List ℕ)} → Takes (get_or ls i 0) r r' t → t ≡ Ok x → x.now ≡ bytes_at p.now (read_to p.now i)
  one_is takes is = IfOk-at_ok (λ section. section.now ≡ bytes_at r.proof.now r.at) is takes.2 ∙ ap (λ (x : Reader). bytes_at x.proof.now x.at) was.stands

-- after the last
pub all_passed : {ls : List ℕ} {p : Bor (List ℕ)} {i : ℕ} {r : Reader} → i ≡ length ls → Passed ls p i r → framed ls p.now ≡ eqb r.at (length p.now)
all_passed {ls} {p} {i} e was = was.follows ∙ turn_end ls p.now (read_to p.now i) i e was.inside ∙ ap (λ (x : Reader). eqb x.at (length p.now)) (sym was.stands)

-- one place more
pub places_more : (at : List ℕ) (i next : ℕ) (f : ℕ → ℕ) → i < length at → next ≡ f i → ((k : ℕ) → k < i → get_or at k 0 ≡ f k) → (k : ℕ) → k < i + 1 → get_or (set at i next) k 0 ≡ f k
places_more at i next f room e before k h = go (ℕ_discrete k i)
  where
    go : Dec (k ≡ i) → get_or (set at i next) k 0 ≡ f k
    go (yes s) = ap (λ j. get_or (set at i next) j 0) s ∙ get_or-set_same at i next 0 room ∙ e ∙ ap f (sym s)
    go (no n) = get_or-set_other at i k next 0 n ∙ before k (omega (arith, n, h))

-- of a string of sections of given lengths, the reader has read i of them where the lengths say
read_to_lem : (ls s : List ℕ) (i : ℕ) → i ≤ length ls → framed ls s ≡ true → read_to s i ≡ framed_length (take i ls)
unfolding read_to next_at framed_length
read_to_lem ls s zero h f = refl
read_to_lem ls s (suc i) h f =
    let at = framed_length (take i ls) in
    let l = get_or ls i 0 in
    let g : framed (l ∷ drop (suc i) ls) (drop at s) ≡ true = ap (λ k. framed k (drop at s)) (sym (drop-cons ls i 0 (omega arith))) ∙ framed-from ls s i f in
    let e = length_more ls i (omega arith) in
    ap (next_at s) (read_to_lem ls s i (omega arith) f) ∙ ap (next_on at) (sym (whole l (drop (suc i) ls) s at g)) ∙ omega (arith, e)

pub section-taken : (ls s : List ℕ) (i : ℕ) → i < length ls → framed ls s ≡ true → bytes_at s (read_to s i) ≡ section_no ls i s
section-taken ls s i h f = ap (bytes_at s) (read_to_lem ls s i (omega arith) f) ∙ section_read ls s i h f
