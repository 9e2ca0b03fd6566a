-- `forms_folds::load_matrix` meets its contract.
-- Assumes nothing.
use Prim.Native.Nat.{◌+◌, ◌*◌}
use mathlib.Core.Path.{sym, ap, ◌∙◌}
use native.Mathlib.Nat.{add_assoc}
use native.Mathlib.Omega.{arith}
use lib.ListN.{drop}
use lib.Seq.{get_or-drop}
use Rattle.protocol.specs.Lists.{block_at}
use Rattle.strings.specs.Sums.{byte_at}
use Rattle.strings.proofs.Rows.{row-byte}
use Rattle.forms_folds.specs.Sets.{trailing}
use Rattle.forms_folds.proofs.SetLaws.{size, section, matrix-folded}
use Rattle.forms_folds.proofs.load_matrix.Goals as goal

pub overflow_mul-from : goal.overflow_mul-from
overflow_mul-from c =
    let a = c.args in
    let pre = c.requires in
    let most = size a.n a.width a.piece.top a.piece.end pre.0.0 pre.0.1 pre.0.2 pre.0.3 in
    omega (arith, most, section a.m a.i (a.n * a.width) pre.1 pre.2 most.0)

pub overflow_mul-from-2 : goal.overflow_mul-from-2
overflow_mul-from-2 c =
    let a = c.args in
    let pre = c.requires in
    let most = size a.n a.width a.piece.top a.piece.end pre.0.0 pre.0.1 pre.0.2 pre.0.3 in
    omega (arith, most, section a.m a.i (a.n * a.width) pre.1 pre.2 most.0)

pub overflow_mul-from-3 : goal.overflow_mul-from-3
overflow_mul-from-3 c =
    let a = c.args in
    let pre = c.requires in
    let most = size a.n a.width a.piece.top a.piece.end pre.0.0 pre.0.1 pre.0.2 pre.0.3 in
    omega (arith, most, section a.m a.i (a.n * a.width) pre.1 pre.2 most.0)

pub overflow_add-from : goal.overflow_add-from
overflow_add-from c =
    let a = c.args in
    let pre = c.requires in
    let most = size a.n a.width a.piece.top a.piece.end pre.0.0 pre.0.1 pre.0.2 pre.0.3 in
    omega (arith, most, section a.m a.i (a.n * a.width) pre.1 pre.2 most.0)

pub overflow_mul-from-4 : goal.overflow_mul-from-4
overflow_mul-from-4 c =
    let a = c.args in
    let pre = c.requires in
    let most = size a.n a.width a.piece.top a.piece.end pre.0.0 pre.0.1 pre.0.2 pre.0.3 in
    omega (arith, most, section a.m a.i (a.n * a.width) pre.1 pre.2 most.0)

pub overflow_add-from-2 : goal.overflow_add-from-2
overflow_add-from-2 c =
    let a = c.args in
    let pre = c.requires in
    let most = size a.n a.width a.piece.top a.piece.end pre.0.0 pre.0.1 pre.0.2 pre.0.3 in
    omega (arith, most, section a.m a.i (a.n * a.width) pre.1 pre.2 most.0)

pub overflow_mul-piece-2 : goal.overflow_mul-piece-2
overflow_mul-piece-2 c =
    let a = c.args in
    let pre = c.requires in
    let most = size a.n a.width a.piece.top a.piece.end pre.0.0 pre.0.1 pre.0.2 pre.0.3 in
    omega (arith, most, section a.m a.i (a.n * a.width) pre.1 pre.2 most.0)

pub overflow_add-from-3 : goal.overflow_add-from-3
overflow_add-from-3 c =
    let a = c.args in
    let pre = c.requires in
    let most = size a.n a.width a.piece.top a.piece.end pre.0.0 pre.0.1 pre.0.2 pre.0.3 in
    omega (arith, most, section a.m a.i (a.n * a.width) pre.1 pre.2 most.0)

pub overflow_add-from-4 : goal.overflow_add-from-4
overflow_add-from-4 c =
    let a = c.args in
    let pre = c.requires in
    let most = size a.n a.width a.piece.top a.piece.end pre.0.0 pre.0.1 pre.0.2 pre.0.3 in
    omega (arith, most, section a.m a.i (a.n * a.width) pre.1 pre.2 most.0)

pub fold_matrix-requires : goal.fold_matrix-requires
fold_matrix-requires c =
    let pre = c.requires in
    (pre.0.4, pre.1, pre.2, pre.4, pre.5, omega arith)

pub returns-then-from-piece : goal.returns-then-from-piece
returns-then-from-piece c =
    let a = c.args in
    let size = a.n * a.width in
    let shift = trailing a.width a.piece.top in
    let from = a.i * size + shift in
    let done = c.fold_matrix in
    let pre = c.requires in record {
      matrix_folded = matrix-folded a.n a.width a.piece.top (drop from a.a.now) (block_at a.a.now size a.i) pre.0.0
          (λ k h. get_or-drop from a.a.now k 0 ∙ ap (λ x. byte_at a.a.now x) (add_assoc (a.i * size) shift k) ∙ sym (row-byte a.a.now size a.i (shift + k) h)) a.piece.first a.piece.end a.piece.count a.m a.i done.new.cells pre.0.5 done.ensures.set_folded;
      others_kept = done.ensures.others_kept;
    }
