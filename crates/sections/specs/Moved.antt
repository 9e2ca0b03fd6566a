-- What the reader's functions say: of one section, of where the reader stands then, and of all six.
--   moved_on r == the reader r after one section: the same lent proof, and how far it has read then
--   Stepped s at step == what a step says of s at index at: the answer; and where it starts and ends, the section there,
--     up to which has been read then
--   Gives r r' t == t is what the reader r gives back, the section or the refusal, and r' the reader after it
--   has l s at == at index at of s a section is there whole, and its length is l
--   Takes l r r' t == t is what the reader r gives back where that has the length l, and else the refusal; r' is the
--     reader after it
--   SectionsOf ls p == the sections of the proof p are those of a string of sections of the lengths ls
-- Assumes nothing.
use Rattle.std.specs.Prelude.{◌≡◌, Bool, ◌&&◌, List, [], ◌∷◌, ℕ, ◌-◌, ◌≤◌, eqb, length, Result, IfOk}
use denote.Ref.{Bor}
use Rattle.protocol.specs.Lists.{part}
use Rattle.protocol.specs.Frames.{section_no}
use Rattle.protocol.specs.Answers.{is_accepted, question, ask}
use Rattle.format.specs.Verdict.{told}
use Rattle.format.specs.declared.Refusal.{Refusal}
use Rattle.sections.specs.Taking.{answer_at, next_at, bytes_at}
use Rattle.sections.specs.declared.reader.Reader.{Reader}
use Rattle.sections.specs.declared.reader.Proof.{Proof}

abbrev pub moved_on : Reader → Reader
moved_on r = record { proof = r.proof; at = next_at r.proof.now r.at }

abbrev pub Stepped : List ℕ → ℕ → Result (ℕ × ℕ) Refusal → Type 0
Stepped s at step = (told step ≡ answer_at s at) × IfOk step (λ span. ((span.0 ≤ span.1) × (span.1 ≤ length s)) × (span.1 ≡ next_at s at) × (part s span.0 (span.1 - span.0) ≡ bytes_at s at))

abbrev pub Gives : Reader → Reader → Result (Bor (List ℕ)) Refusal → Type 0
Gives r r' t = (told t ≡ answer_at r.proof.now r.at) × (r' ≡ moved_on r) × IfOk t (λ section. section.now ≡ bytes_at r.proof.now r.at)

unfoldable pub has : ℕ → List ℕ → ℕ → Bool
has l s at = is_accepted (answer_at s at) && eqb (length (bytes_at s at)) l

abbrev pub Takes : ℕ → Reader → Reader → Result (Bor (List ℕ)) Refusal → Type 0
Takes l r r' t = (told t ≡ ask (question (has l r.proof.now r.at) 12 0 ∷ [])) × (r' ≡ moved_on r) × IfOk t (λ section. section.now ≡ bytes_at r.proof.now r.at)

pub record SectionsOf (ls : List ℕ) (p : Proof) : Type 0 where
  pub c_is : p.c.now ≡ section_no ls 0 p.bytes.now
  pub d_is : p.d.now ≡ section_no ls 1 p.bytes.now
  pub u_is : p.u.now ≡ section_no ls 2 p.bytes.now
  pub v_is : p.v.now ≡ section_no ls 3 p.bytes.now
  pub qs0_is : p.qs0.now ≡ section_no ls 4 p.bytes.now
  pub qs1_is : p.qs1.now ≡ section_no ls 5 p.bytes.now
