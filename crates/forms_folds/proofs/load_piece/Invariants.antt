-- `forms_folds::load_piece` meets its contract. The invariant: the matrices below i are loaded.
-- Assumes nothing.
use Prim.Native.Nat.{ℕ, ◌*◌, ◌<◌}
use Rattle.protocol.specs.Lists.{block_at}
use Rattle.forms_folds.specs.Sets.{MatrixFolded}
use Rattle.forms_folds.proofs.load_piece.Given as goal

abbrev pub invariant-loop-i : goal.invariant-loop-i
invariant-loop-i l =
    (x : ℕ) → x < l.i → MatrixFolded l.n l.width (block_at l.a (l.n * l.width) x) l.piece.top l.piece.first l.piece.count l.m x l.cells
