-- What a call has of its trees once they are loaded. In each definition A is the alphabet.
--   Buffers s table sums == the two buffers have room for the table of the v_e and for the u_e of a key of the sizes s
--   LoadReady s leaves table sums == the leaves have their form, and the buffers their room
--   Loaded s leaves table sums == the rows of `sums` are u_e, and the lanes of `table` v_e, of every repetition e
-- Assumes nothing.
use Rattle.std.specs.Prelude.{◌≡◌, true, List, ℕ, ◌*◌, ◌≤◌, length}
use Rattle.protocol.specs.Alphabet.{Alphabet}
use Rattle.protocol.specs.Shape.{Shape, limits, per_tree, w_of}
use Rattle.lanes.specs.Lanes.{lanes}
use Rattle.tables.specs.Sums.{SumsAre, TableIs}
use Rattle.questions.specs.Facts.{LeavesForm}

pub record Buffers (A : Alphabet) (s : Shape) (table sums : List ℕ) : Type 0 where
  pub table-room : 8 * w_of A s * lanes ≤ length table
  pub sums-room : s.τ * w_of A s ≤ length sums

abbrev pub LoadReady : Alphabet → Shape → List ℕ → List ℕ → List ℕ → Type 0
LoadReady A s leaves table sums = (limits s ≡ true) × LeavesForm A s leaves × Buffers A s table sums

pub record Loaded (A : Alphabet) (s : Shape) (leaves table sums : List ℕ) : Type 0 where
  pub leaves-form : LeavesForm A s leaves
  pub buffers : Buffers A s table sums
  pub sums-are : SumsAre sums leaves s.τ (w_of A s) (per_tree A)
  pub table_is : TableIs table leaves s.τ (w_of A s) (per_tree A)
