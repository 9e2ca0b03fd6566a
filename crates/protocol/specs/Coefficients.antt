-- A repetition's two checks as polynomials in its challenge δ: one line for each hash row, and one quadratic.
--   shift e == u_e + C_e;  row_line ρ == row ρ of the consistency check, a + δ·b
--   conditions == all of them: the quadratic one is c0 + c1·δ + c2·δ²
-- Assumes nothing.
use Rattle.std.specs.Prelude.{List, ℕ, ◌+◌, ◌*◌}
use Rattle.algebra.specs.Roots.{Line, Conditions}
use Rattle.protocol.specs.Lists.{table}
use Rattle.protocol.specs.Alphabet.{Alphabet, sym, elem_at}
use Rattle.protocol.specs.Shape.{Shape}
use Rattle.protocol.specs.Sections.{Sections}
use Rattle.protocol.specs.Forms.{quad, middle, hash, mask_of, batch}
use Rattle.protocol.specs.Prover.{u, v}
use Rattle.protocol.specs.Verifier.{correction_at, candidate, batched_error}

module _ (A : Alphabet) (s : Shape) where
  open A use {K}
  open K use {base}
  open base use {R}
  open R use {F, add as ◌⊕◌}

  infixl 65 ◌⊕◌
  module _ (key leaves H' χ : List ℕ) (p : Sections) (e : ℕ) where
    abbrev pub shift : ℕ → F
    shift c = u A s leaves e c ⊕ correction_at A s p e c

    abbrev pub row_line : ℕ → Line base
    row_line ρ = record { a = hash A s H' ρ (v A s leaves e) ⊕ elem_at A p.Ṽ (e * s.t + ρ); b = hash A s H' ρ shift ⊕ sym A p.ũ ρ }

    abbrev pub conditions : Conditions base
    conditions = record {
      lines = table s.t row_line;
      c0 = batch A s χ e (λ i. quad A s key i (v A s leaves e) (v A s leaves e)) ⊕ mask_of A s e (v A s leaves e) ⊕ elem_at A p.QS0 e;
      c1 = batch A s χ e (λ i. middle A s key i (v A s leaves e) (candidate A s leaves p e)) ⊕ mask_of A s e shift ⊕ elem_at A p.QS1 e;
      c2 = batched_error A s key χ leaves p e;
    }
