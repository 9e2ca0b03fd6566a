-- The lengths of the sections of a proof; and a proof that the reader gives is one by the lengths.
-- Assumes nothing.
use mathlib.Core.Path.{◌≡◌, refl, ap, ◌∙◌}
use mathlib.Core.List.{List}
use Prim.Native.Nat.{ℕ, ◌*◌, ◌-◌, ◌<◌}
use native.Mathlib.Omega.{arith}
use lib.ListN.{length, get_or}
use Rattle.protocol.specs.Frames.{section_no}
use Rattle.protocol.specs.Alphabet.{Alphabet}
use Rattle.protocol.specs.Shape.{Shape, w_of}
use Rattle.protocol.specs.Sections.{lengths}
use Rattle.questions.specs.Facts.{ProofForm, SectionIs, ProofOf}
use Rattle.sections.specs.Moved.{SectionsOf}
use Rattle.sections.specs.declared.reader.Proof.{Proof}
use Rattle.sections.proofs.ReaderLaws.{section-length}

-- the lengths of the proof's sections
pub record SectionLengths (A : Alphabet) (s : Shape) : Type 0 where
  pub c_length : get_or (lengths A s) 0 0 ≡ (s.τ - 1) * w_of A s
  pub d_length : get_or (lengths A s) 1 0 ≡ A.width s.n
  pub u_length : get_or (lengths A s) 2 0 ≡ A.width s.t
  pub v_length : get_or (lengths A s) 3 0 ≡ s.τ * s.t
  pub qs0-length : get_or (lengths A s) 4 0 ≡ s.τ
  pub qs1-length : get_or (lengths A s) 5 0 ≡ s.τ

pub section-lengths : (A : Alphabet) (s : Shape) → SectionLengths A s
unfolding lengths
section-lengths A s = record { c_length = refl; d_length = refl; u_length = refl; v_length = refl; qs0-length = refl; qs1-length = refl }

six : (A : Alphabet) (s : Shape) (i : ℕ) → i < 6 → i < length (lengths A s)
unfolding lengths
six A s i h = h

-- a section that is the one of the lengths has its length
its : (A : Alphabet) (s : Shape) (proof : List ℕ) → ProofForm A s proof → (i : ℕ) → i < 6 → {r : List ℕ} → r ≡ section_no (lengths A s) i proof → SectionIs A s proof i r
its A s proof form i h e = (e, ap length e ∙ section-length (lengths A s) proof i (six A s i h) form)

pub proof_of : (A : Alphabet) (s : Shape) (p : Proof) → ProofForm A s p.bytes.now → SectionsOf (lengths A s) p → ProofOf A s p
proof_of A s p form are =
    record {
      form = form;
      c_is = its A s p.bytes.now form 0 (omega arith) are.c_is;
      d_is = its A s p.bytes.now form 1 (omega arith) are.d_is;
      u_is = its A s p.bytes.now form 2 (omega arith) are.u_is;
      v_is = its A s p.bytes.now form 3 (omega arith) are.v_is;
      qs0_is = its A s p.bytes.now form 4 (omega arith) are.qs0_is;
      qs1_is = its A s p.bytes.now form 5 (omega arith) are.qs1_is;
    }
