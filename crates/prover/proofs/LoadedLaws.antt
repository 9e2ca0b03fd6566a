-- What the forms of inputs say of their lengths, and what loading a call's leaves gives.
-- Assumes nothing.
use mathlib.Core.Path.{◌≡◌, sym, ap, ◌∙◌}
use mathlib.Core.Bool.{true}
use mathlib.Core.List.{List, ◌++◌}
use Prim.Native.Nat.{ℕ, ◌+◌, ◌*◌, ◌-◌, ◌^◌, ◌≤◌}
use native.Mathlib.Omega.{arith}
use lib.ListN.{length, replicate, length-replicate, get_or-append}
use Rattle.protocol.specs.Strings.{bytes_for}
use Rattle.protocol.specs.Frames.{framed_length}
use Rattle.protocol.specs.Alphabet.{Alphabet}
use Rattle.protocol.specs.Setting.{Setting, alphabet_of}
use Rattle.protocol.specs.Shape.{Shape, limits, per_tree, w_of}
use Rattle.protocol.specs.Sections.{commit_lengths, hash_lengths}
use Rattle.theorems.proofs.CountingLaws.{leaves-length}
use Rattle.theorems.proofs.ListLaws.{row-end}
use Rattle.format.proofs.FitLaws.{room, variables_fit}
use Rattle.format.specs.Limits.{most_leaf}
use Rattle.lanes.specs.Lanes.{lanes}
use Rattle.chunks.specs.Chunks.{most_block, chunk}
use Rattle.forms_folds.specs.Folds.{cell_sixteens}
use Rattle.tables.specs.Sums.{SumsAre, TableIs}
use Rattle.tables.proofs.SumsMeaning.{table_v}
use Rattle.questions.specs.Asking.{SizedKey}
use Rattle.questions.specs.Facts.{KeyFacts, LeavesForm}
use Rattle.prover.specs.Loaded.{Buffers, Loaded}
use Rattle.forms.specs.Batch.{TableNarrow}

pub leaves-long : (A : Alphabet) (s : Shape) (leaves : List ℕ) → LeavesForm A s leaves → length leaves ≡ s.τ * per_tree A * w_of A s
leaves-long A s leaves f = leaves-length A s leaves f.leaves-exact

-- what the first part of a buffer holds, the buffer holds
pub sums_more : (p q leaves : List ℕ) (τ w count : ℕ) → length p ≡ τ * w → SumsAre p leaves τ w count → SumsAre (p ++ q) leaves τ w count
sums_more p q leaves τ w count long are e b l h = get_or-append p q 0 (e * w + b) (omega (arith, long, row-end e τ w l)) ∙ are e b l h

pub table_more : (p q leaves : List ℕ) (τ w count : ℕ) → τ ≤ lanes → length p ≡ 8 * w * lanes → TableIs p leaves τ w count → TableIs (p ++ q) leaves τ w count
table_more p q leaves τ w count few long is e c l h = get_or-append p q 0 (c * lanes + e) (omega (arith, long, row-end c (8 * w) lanes h)) ∙ is e c l h

-- a key whose questions got a yes has its sections
pub key-form : (A : Alphabet) (s : Shape) (key : List ℕ) → KeyFacts A s key → SizedKey A s key
key-form A s key f = record { header = f.header; sizes = f.in-range; exact = f.key-exact }

-- the buffers of a call, made for the largest key, have room for this one
pub buffers_of : (g : Setting) (s : Shape) → limits s ≡ true → Buffers (alphabet_of g) s (replicate (8 * most_leaf * lanes) 0) (replicate (lanes * most_leaf) 0)
buffers_of g s h = record {
  table-room = rw (length-replicate {A = ℕ} (8 * most_leaf * lanes) 0) (room g s h).table-room;
  sums-room = rw (length-replicate {A = ℕ} (lanes * most_leaf) 0) (room g s h).sums-room;
}

-- and so has the space of the cells
pub space_of : (g : Setting) (s : Shape) → limits s ≡ true → Buffers (alphabet_of g) s (replicate (cell_sixteens * (most_block * chunk)) 0) (replicate (lanes * most_leaf) 0)
space_of g s h = record {
  table-room = rw (length-replicate {A = ℕ} (cell_sixteens * (most_block * chunk)) 0) (omega (arith, (room g s h).table-room));
  sums-room = rw (length-replicate {A = ℕ} (lanes * most_leaf) 0) (room g s h).sums-room;
}

-- the lengths of what the steps write
module _ (g : Setting) (s : Shape) where
  pub commit-length : framed_length (commit_lengths (alphabet_of g) s) ≡ 8 + (s.τ - 1) * w_of (alphabet_of g) s + bytes_for s.n
  unfolding framed_length commit_lengths
  commit-length = omega arith

  pub hash-length : framed_length (hash_lengths (alphabet_of g) s) ≡ 8 + bytes_for s.t + s.τ * s.t
  unfolding framed_length hash_lengths
  hash-length = omega arith

-- the lanes of a table that is loaded are elements
pub loaded_narrow : (g : Setting) (s : Shape) (leaves table sums : List ℕ) → Loaded (alphabet_of g) s leaves table sums → TableNarrow (alphabet_of g) s table
loaded_narrow g s leaves table sums loaded e c l h = rw (table_v g s leaves e c table s.τ loaded.table_is l (omega (arith, variables_fit g s))) ((alphabet_of g).K.byte_lt _)

-- a tree has as many leaves as its degree says
pub tree-power : (g : Setting) (r : ℕ) → r ≡ (alphabet_of g).masks → 2 ^ r ≡ per_tree (alphabet_of g)
unfolding per_tree
tree-power g r h = ap (λ k. 2 ^ k) h ∙ sym (alphabet_of g).K.size_is
