-- What the consistency check on bytes is in 01's terms, where a table holds the verifier's vectors in its lanes.
-- Assumes nothing.
use mathlib.Core.Path.{◌≡◌, sym, ap₂, ◌∙◌}
use mathlib.Core.List.{List}
use Prim.Native.Nat.{ℕ, ◌+◌, ◌*◌, ◌<◌}
use lib.Dec.{eqb}
use lib.ListN.{length}
use lib.Bits.{bit_xor}
use Rattle.protocol.specs.Lists.{block_at}
use Rattle.protocol.specs.Strings.{bytes_for, bit}
use Rattle.protocol.specs.Alphabet.{sym as symbol, elem_at}
use Rattle.protocol.specs.Setting.{Setting, alphabet_of, size_of}
use Rattle.protocol.specs.Shape.{Shape, k_of, l_of}
use Rattle.protocol.specs.Sections.{Sections, sections_in}
use Rattle.protocol.specs.Questions.{tree_of, consistent_in}
use Rattle.protocol.specs.Verifier.{W, consistent, consistent_at}
use Rattle.theorems.proofs.StringLaws.{bit_lt}
use Rattle.theorems.proofs.TestLaws.{all_congr}
use Rattle.strings.specs.Sums.{byte_at}
use Rattle.strings.proofs.Rows.{row-byte}
use Rattle.strings.proofs.Meaning.{byte-times}
use Rattle.lanes.specs.Lanes.{lane_at}
use Rattle.tables_opened.specs.Opened.{Opened}
use Rattle.tables.proofs.SumsMeaning.{byte_of, same_bytes}
use Rattle.tables_opened.proofs.OpenedMeaning.{opened-lane}
use Rattle.hash.specs.Hashed.{hash_lane}
use Rattle.hash.proofs.HashMeaning.{hash_lane_is}
use Rattle.std.specs.Prelude.{Option}
use Rattle.format.specs.First.{FirstOf}
use Rattle.questions.specs.Facts.{HashForm}
use Rattle.format.proofs.FirstLaws.{first_same}
use Rattle.verifier_consistency.specs.Consistency.{row_consistent, FirstInRows}

module _ (g : Setting) (s : Shape) (p : Sections) (e δ : ℕ) (small : δ < size_of g) (w : ℕ → (alphabet_of g).K.base.R.F) where
  consistent_is : (H' T hashed : List ℕ) → HashForm (alphabet_of g) s H' → ((c : ℕ) → c < l_of (alphabet_of g) s → lane_at T c e ≡ byte_of g (w c))
      → ((ρ : ℕ) → ρ < s.t → byte_at hashed (e * s.t + ρ) ≡ hash_lane H' (bytes_for (k_of (alphabet_of g) s)) (k_of (alphabet_of g) s) T ρ e)
      → ((i : ℕ) → byte_at p.Ṽ i < size_of g)
      → row_consistent (block_at hashed s.t e) (block_at p.Ṽ s.t e) p.ũ δ s.t ≡ consistent (alphabet_of g) s H' p e ((alphabet_of g).K.elem δ) w
  unfolding consistent elem_at symbol
  consistent_is H' T hashed form holds rows bytes =
      all_congr s.t _ _
      (λ ρ h.
      ap₂ eqb (row-byte hashed s.t e ρ h ∙ rows ρ h ∙ hash_lane_is g s H' T w ρ e form.hash-exact form.hash-spare h holds)
      (ap₂ bit_xor (row-byte p.Ṽ s.t e ρ h ∙ sym ((alphabet_of g).K.byte-elem _ (bytes (e * s.t + ρ)))) (sym (byte-times (alphabet_of g).K δ (bit p.ũ ρ) small (bit_lt p.ũ ρ)))
      ∙ sym ((alphabet_of g).K.byte-add _ _))
      ∙ same_bytes (alphabet_of g).K _ _)

module _ (g : Setting) (s : Shape) (Δ opened proof T : List ℕ) (is : Opened (alphabet_of g) s Δ opened proof T) (long : length Δ ≡ s.τ) (challenges : (i : ℕ) → byte_at Δ i < size_of g) where
  abbrev p : Sections
  p = sections_in (alphabet_of g) s proof

  abbrev w : ℕ → ℕ → (alphabet_of g).K.base.R.F
  w e = W (alphabet_of g) s p e (byte_at Δ e) (tree_of (alphabet_of g) s opened e)

  holds : (e c : ℕ) → e < s.τ → c < l_of (alphabet_of g) s → lane_at T c e ≡ byte_of g (w e c)
  holds = opened-lane g s Δ opened proof T is challenges

  pub first_inconsistent_is : (H' hashed : List ℕ) → HashForm (alphabet_of g) s H' → ((i : ℕ) → byte_at p.Ṽ i < size_of g)
      → ((e ρ : ℕ) → e < s.τ → ρ < s.t → byte_at hashed (e * s.t + ρ) ≡ hash_lane H' (bytes_for (k_of (alphabet_of g) s)) (k_of (alphabet_of g) s) T ρ e)
      → (first : Option ℕ) → FirstInRows hashed p.Ṽ p.ũ Δ s.t first → FirstOf s.τ (consistent_in (alphabet_of g) s Δ H' opened proof) first
  unfolding consistent_in consistent_at
  first_inconsistent_is H' hashed form bytes rows first is =
      first_same (length Δ) s.τ _ _ first long (λ e l. consistent_is g s p e (byte_at Δ e) (challenges e) (w e) H' T hashed form (λ c h. holds e c l h) (λ ρ h. rows e ρ l h) bytes) is
