-- The consistency check on bytes, as the code makes it, and what is said of it.
--   row_consistent hashed v u δ t == the consistency check of one repetition: hashed, of t entries, is v + δ·u
--   RowsOf Δ t hashed v == hashed and v have a row of t entries for each repetition
--   FirstInRows hashed v u Δ t first == first is the first repetition whose rows of t entries do not pass it
--   BitMasks u masks == byte i of masks is all ones where bit i of u is set, and 0 elsewhere
--   FirstInconsistent A s Δ H' proof table first == first is the first repetition that is not consistent, whatever
--     leaves were opened into the table; A is the alphabet
-- Assumes nothing.
use Rattle.std.specs.Prelude.{◌≡◌, Bool, List, ℕ, ◌*◌, ◌<◌, eqb, length, Option}
use Rattle.std.specs.Int.Bits.{bit_xor}
use Rattle.protocol.specs.Lists.{all_below, block_at}
use Rattle.protocol.specs.Strings.{bit}
use Rattle.protocol.specs.Alphabet.{Alphabet}
use Rattle.protocol.specs.Shape.{Shape}
use Rattle.protocol.specs.Questions.{consistent_in}
use Rattle.strings.specs.Sums.{byte_at, mask_byte}
use Rattle.format.specs.First.{FirstOf}
use Rattle.tables_opened.specs.Opened.{Opened}

abbrev pub row_consistent : List ℕ → List ℕ → List ℕ → ℕ → ℕ → Bool
row_consistent hashed v u δ t = all_below t (λ ρ. eqb (byte_at hashed ρ) (bit_xor (byte_at v ρ) (δ * bit u ρ)))

abbrev pub BitMasks : List ℕ → List ℕ → Type 0
BitMasks u masks = (i : ℕ) → i < length masks → byte_at masks i ≡ bit u i * mask_byte

abbrev pub RowsOf : List ℕ → ℕ → List ℕ → List ℕ → Type 0
RowsOf Δ t hashed v = (length hashed ≡ length Δ * t) × (length v ≡ length Δ * t)

abbrev pub FirstInRows : List ℕ → List ℕ → List ℕ → List ℕ → ℕ → Option ℕ → Type 0
FirstInRows hashed v u Δ t first = FirstOf (length Δ) (λ e. row_consistent (block_at hashed t e) (block_at v t e) u (byte_at Δ e) t) first

abbrev pub FirstInconsistent : Alphabet → Shape → List ℕ → List ℕ → List ℕ → List ℕ → Option ℕ → Type 0
FirstInconsistent A s Δ H' proof table first = (opened : List ℕ) → Opened A s Δ opened proof table → FirstOf s.τ (consistent_in A s Δ H' opened proof) first
