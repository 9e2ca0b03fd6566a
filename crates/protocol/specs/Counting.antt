-- The words of the forgery count.
--   opening s leaves Δ == the leaves opened at Δ
--   candidate_bytes key leaves proof e == the candidate witness of repetition e, as bytes
--   accepted_count == how many Δ of τ elements the verifier's call accepts, the leaves opened anew for each. A byte that
--     is no element is refused 17 (Demands: OtherBytesRefused)
--   checks_at == both checks hold in repetition e at δ
--   factor == how many elements of K, put for Δ_e, make both hold in e
-- Assumes nothing.
use Rattle.std.specs.Prelude.{Bool, ◌&&◌, List, map, ℕ}
use Rattle.algebra.specs.Count.{count}
use Rattle.algebra.specs.Strings.{strings}
use Rattle.protocol.specs.Alphabet.{Alphabet}
use Rattle.protocol.specs.Setting.{Setting, alphabet_of}
use Rattle.protocol.specs.Shape.{Shape, shape_of, per_tree, w_of}
use Rattle.protocol.specs.Sections.{Sections, sections_in}
use Rattle.protocol.specs.Leaves.{open_tree, open_leaves}
use Rattle.protocol.specs.Verifier.{consistent_at, product_at, candidate}
use Rattle.protocol.specs.Answers.{is_accepted}
use Rattle.protocol.specs.Calls.{verify_answer}

module _ (A : Alphabet) where
  open A use {K}
  open K use {base, byte}
  open base use {elements}

  unfoldable pub opening : Shape → List ℕ → List ℕ → List ℕ
  opening s leaves Δ = open_leaves (per_tree A) (w_of A s) s.τ leaves Δ

  abbrev pub candidate_bytes : List ℕ → List ℕ → List ℕ → ℕ → List ℕ
  candidate_bytes key leaves proof e = A.pack (shape_of key).n (λ c. A.symbol_of (candidate A (shape_of key) leaves (sections_in A (shape_of key) proof) e c))

  module _ (key leaves H' χ : List ℕ) where
    unfoldable pub checks_at : Shape → Sections → ℕ → ℕ → Bool
    checks_at s p e δ = consistent_at A s H' p e δ (open_tree (per_tree A) (w_of A s) leaves e δ) && product_at A s key χ p e δ (open_tree (per_tree A) (w_of A s) leaves e δ)

    unfoldable pub factor : List ℕ → ℕ → ℕ
    factor proof e = count (λ x. checks_at (shape_of key) (sections_in A (shape_of key) proof) e (byte x)) elements

unfoldable pub accepted_count : Setting → List ℕ → List ℕ → List ℕ → List ℕ → List ℕ → ℕ
accepted_count g key leaves H' χ proof =
    let A = alphabet_of g in
    count (λ Δ. is_accepted (verify_answer g key (map A.K.byte Δ) H' χ (opening A (shape_of key) leaves (map A.K.byte Δ)) proof)) (strings A.K.base (shape_of key).τ)
