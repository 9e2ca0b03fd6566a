-- `forms_folds::fold_last` meets its contract: what is folded is a copy of the matrix.
-- Assumes nothing.
use Prim.Native.Nat.{◌+◌, ◌*◌}
use mathlib.Core.Path.{sym, ap, ◌∙◌}
use native.Mathlib.Nat.{add_assoc}
use native.Mathlib.Omega.{arith}
use Rattle.protocol.specs.Lists.{block_at}
use Rattle.strings.specs.Sums.{byte_at}
use Rattle.strings.proofs.Rows.{row-byte}
use Rattle.forms_folds.specs.Sets.{trailing}
use Rattle.forms_folds.proofs.SetLaws.{size, section, matrix-folded}
use Rattle.forms_folds.proofs.fold_last.Goals as goal

pub overflow_mul-shift : goal.overflow_mul-shift
overflow_mul-shift c =
    let a = c.args in
    let pre = c.requires in
    let most = size a.n a.width a.piece.top a.piece.end pre.0.0 pre.0.1 pre.0.2 pre.0.3 in
    omega (arith, most, section a.m a.i (a.n * a.width) pre.1 pre.2 most.0)

pub overflow_add-shift : goal.overflow_add-shift
overflow_add-shift c =
    let a = c.args in
    let pre = c.requires in
    let most = size a.n a.width a.piece.top a.piece.end pre.0.0 pre.0.1 pre.0.2 pre.0.3 in
    omega (arith, most, section a.m a.i (a.n * a.width) pre.1 pre.2 most.0)

pub overflow_mul-shift-2 : goal.overflow_mul-shift-2
overflow_mul-shift-2 c =
    let a = c.args in
    let pre = c.requires in
    let most = size a.n a.width a.piece.top a.piece.end pre.0.0 pre.0.1 pre.0.2 pre.0.3 in
    omega (arith, most, section a.m a.i (a.n * a.width) pre.1 pre.2 most.0)

pub overflow_mul-n : goal.overflow_mul-n
overflow_mul-n c =
    let a = c.args in
    let pre = c.requires in
    let most = size a.n a.width a.piece.top a.piece.end pre.0.0 pre.0.1 pre.0.2 pre.0.3 in
    omega (arith, most, section a.m a.i (a.n * a.width) pre.1 pre.2 most.0)

pub overflow_mul-i : goal.overflow_mul-i
overflow_mul-i c =
    let a = c.args in
    let pre = c.requires in
    let most = size a.n a.width a.piece.top a.piece.end pre.0.0 pre.0.1 pre.0.2 pre.0.3 in
    omega (arith, most, section a.m a.i (a.n * a.width) pre.1 pre.2 most.0)

pub overflow_add-i : goal.overflow_add-i
overflow_add-i c =
    let a = c.args in
    let pre = c.requires in
    let most = size a.n a.width a.piece.top a.piece.end pre.0.0 pre.0.1 pre.0.2 pre.0.3 in
    omega (arith, most, section a.m a.i (a.n * a.width) pre.1 pre.2 most.0)

pub overflow_mul-n-2 : goal.overflow_mul-n-2
overflow_mul-n-2 c =
    let a = c.args in
    let pre = c.requires in
    let most = size a.n a.width a.piece.top a.piece.end pre.0.0 pre.0.1 pre.0.2 pre.0.3 in
    omega (arith, most, section a.m a.i (a.n * a.width) pre.1 pre.2 most.0)

pub overflow_sub-n : goal.overflow_sub-n
overflow_sub-n c =
    let a = c.args in
    let pre = c.requires in
    let most = size a.n a.width a.piece.top a.piece.end pre.0.0 pre.0.1 pre.0.2 pre.0.3 in
    omega (arith, most, section a.m a.i (a.n * a.width) pre.1 pre.2 most.0)

pub copy_front-requires : goal.copy_front-requires
copy_front-requires c =
    let a = c.args in
    let pre = c.requires in
    let most = size a.n a.width a.piece.top a.piece.end pre.0.0 pre.0.1 pre.0.2 pre.0.3 in
    (omega (arith, most), omega (arith, most, section a.m a.i (a.n * a.width) pre.1 pre.2 most.0))

pub fold_matrix-requires : goal.fold_matrix-requires
fold_matrix-requires c =
    let a = c.args in
    let pre = c.requires in
    let most = size a.n a.width a.piece.top a.piece.end pre.0.0 pre.0.1 pre.0.2 pre.0.3 in
    (pre.0.4, pre.1, pre.2, pre.4, pre.5, omega (arith, most, c.copy_front.auto.dst))

pub returns : goal.returns
returns c =
    let a = c.args in
    let copy = c.copy_front in
    let done = c.fold_matrix in
    let pre = c.requires in
    let size = a.n * a.width in
    let shift = trailing a.width a.piece.top in record {
      matrix_folded = matrix-folded a.n a.width a.piece.top copy.new.dst (block_at a.a.now size a.i) pre.0.0
          (λ k h. copy.ensures.by_index k (omega arith) ∙ ap (λ x. byte_at a.a.now x) (add_assoc (a.i * size) shift k) ∙ sym (row-byte a.a.now size a.i (shift + k) h)) a.piece.first a.piece.end a.piece.count a.m a.i done.new.cells pre.0.5 done.ensures.set_folded;
      others_kept = done.ensures.others_kept;
    }
