-- The prover's rules.
--   u e c == coordinate c of u_e = Σ ℓ(e, j);  v e c == that of v_e = Σ j·ℓ(e, j);  u_0 is 01's u
--   correction e == C_e = u_e + u;  d_of x == d = x + the first n bits of u;  qs0 e, qs1 e == QS0_e, QS1_e
--   a₀, a₁ == the coefficients of 1 and X in xᵀA_i·x at v_e + X·x, plus X·(b_i·(v_e + X·x)), plus y_i·X² (statement
--     `Expansion`)
--   sections_of == the six sections that the rules give
--   proof_of, commit_bytes, hash_bytes, batch_bytes == what the whole call and the three steps write
-- Assumes nothing.
use Rattle.std.specs.Prelude.{List, [], ◌∷◌, ℕ, suc, ◌-◌}
use Rattle.algebra.specs.Sum.{sum}
use Rattle.protocol.specs.Lists.{table, concat}
use Rattle.protocol.specs.Frames.{frame}
use Rattle.protocol.specs.Alphabet.{Alphabet, sym}
use Rattle.protocol.specs.Shape.{Shape, shape_of, per_tree, l_of, w_of}
use Rattle.protocol.specs.Sections.{Sections, bytes_of}
use Rattle.protocol.specs.Leaves.{leaf_at}
use Rattle.protocol.specs.Forms.{quad, middle, hash, mask_of, batch}

module _ (A : Alphabet) where
  open A use {K, symbol_of, pack}
  open K use {base, elem, byte}
  open base use {R}
  open R use {F, add as ◌⊕◌, mul as ◌⊗◌}

  infixl 65 ◌⊕◌
  infixl 70 ◌⊗◌
  module _ (s : Shape) (leaves : List ℕ) where
    unfoldable pub u : ℕ → ℕ → F
    u e c = sum R (per_tree A) (λ j. sym A (leaf_at (per_tree A) (w_of A s) leaves e j) c)

    unfoldable pub v : ℕ → ℕ → F
    v e c = sum R (per_tree A) (λ j. elem j ⊗ sym A (leaf_at (per_tree A) (w_of A s) leaves e j) c)

    unfoldable pub correction : ℕ → ℕ → F
    correction e c = u e c ⊕ u 0 c

    unfoldable pub d_of : List ℕ → ℕ → F
    d_of x c = sym A x c ⊕ u 0 c

    unfoldable pub a₀ : List ℕ → ℕ → ℕ → F
    a₀ key e i = quad A s key i (v e) (v e)

    unfoldable pub a₁ : List ℕ → List ℕ → ℕ → ℕ → F
    a₁ key x e i = middle A s key i (v e) (sym A x)

    unfoldable pub qs0 : List ℕ → List ℕ → ℕ → F
    qs0 key χ e = batch A s χ e (a₀ key e) ⊕ mask_of A s e (v e)

    unfoldable pub qs1 : List ℕ → List ℕ → List ℕ → ℕ → F
    qs1 key x χ e = batch A s χ e (a₁ key x e) ⊕ mask_of A s e (u 0)

    -- C_0 is all zero and not sent
    unfoldable pub c_section : List ℕ
    c_section = concat (table (s.τ - 1) (λ e. pack (l_of A s) (λ c. symbol_of (correction (suc e) c))))

    unfoldable pub d_section : List ℕ → List ℕ
    d_section x = pack s.n (λ c. symbol_of (d_of x c))

    unfoldable pub ũSection : List ℕ → List ℕ
    ũSection H' = pack s.t (λ ρ. symbol_of (hash A s H' ρ (u 0)))

    unfoldable pub ṼSection : List ℕ → List ℕ
    ṼSection H' = concat (table s.τ (λ e. table s.t (λ ρ. byte (hash A s H' ρ (v e)))))

    unfoldable pub qs0_section : List ℕ → List ℕ → List ℕ
    qs0_section key χ = table s.τ (λ e. byte (qs0 key χ e))

    unfoldable pub qs1_section : List ℕ → List ℕ → List ℕ → List ℕ
    qs1_section key x χ = table s.τ (λ e. byte (qs1 key x χ e))

    abbrev pub sections_of : List ℕ → List ℕ → List ℕ → List ℕ → Sections
    sections_of key x H' χ = record {
      C = c_section;
      d = d_section x;
      ũ = ũSection H';
      Ṽ = ṼSection H';
      QS0 = qs0_section key χ;
      QS1 = qs1_section key x χ;
    }

  module _ (key leaves : List ℕ) where
    unfoldable pub commit_bytes : List ℕ → List ℕ
    commit_bytes x = frame (c_section (shape_of key) leaves ∷ d_section (shape_of key) leaves x ∷ [])

    unfoldable pub hash_bytes : List ℕ → List ℕ
    hash_bytes H' = frame (ũSection (shape_of key) leaves H' ∷ ṼSection (shape_of key) leaves H' ∷ [])

    unfoldable pub batch_bytes : List ℕ → List ℕ → List ℕ
    batch_bytes x χ = frame (qs0_section (shape_of key) leaves key χ ∷ qs1_section (shape_of key) leaves key x χ ∷ [])

    unfoldable pub proof_of : List ℕ → List ℕ → List ℕ → List ℕ
    proof_of x H' χ = bytes_of (sections_of (shape_of key) leaves key x H' χ)
