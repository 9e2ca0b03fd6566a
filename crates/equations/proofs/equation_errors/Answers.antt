-- `equations::equation_errors` meets its contract. Each element is changed once (`Elementwise`), to the error of its
-- equation.
-- Assumes nothing.
use Prim.Native.Nat.{ℕ, ◌*◌, ◌≤◌}
use mathlib.Core.Path.{◌≡◌, refl, ap, ◌∙◌}
use native.Mathlib.Nat.{mul-le-mul}
use native.Mathlib.Omega.{arith}
use lib.ListN.{length}
use Rattle.protocol.specs.Lists.{block_at}
use Rattle.protocol.specs.Strings.{bytes_for}
use Rattle.strings.proofs.Elementwise.{changed, changed_more, changed-all}
use Rattle.strings.proofs.Rows.{row-end}
use Rattle.equations.specs.Equations.{key_error}
use Rattle.equations.proofs.equation_errors.Invariants.{change}
use Rattle.equations.proofs.equation_errors.Goals as goal

pub overflow_mul-size : goal.overflow_mul-size
unfolding bytes_for
overflow_mul-size c =
    let pre = c.requires in
    let few : c.args.n ≤ 65535 = omega (arith, pre.0) in
    let short : length c.args.x.now ≤ 8192 = omega (arith, pre.0, pre.1) in
    omega (arith, mul-le-mul few short)

pub loop-i-init : goal.loop-i-init
unfolding changed
loop-i-init c = refl

pub row_at-matrix-requires : goal.row_at-matrix-requires
row_at-matrix-requires c =
    let pre = c.requires in
    let a = c.args in
    rw pre.1 (omega (arith, pre.2, row-end c.loop-i.i (length a.errors.now) (a.n * bytes_for a.n) (omega arith)))

pub row_at-row-requires : goal.row_at-row-requires
row_at-row-requires c =
    let pre = c.requires in
    let a = c.args in
    rw pre.1 (omega (arith, pre.3, row-end c.loop-i.i (length a.errors.now) (bytes_for a.n) (omega arith)))

pub equation_error-requires : goal.equation_error-requires
equation_error-requires c =
    let pre = c.requires in
    (pre.1, c.row_at-row.ensures.1, c.row_at-matrix.ensures.1, pre.0)

pub loop-i-preserved : goal.loop-i-preserved
unfolding key_error
loop-i-preserved c =
    let pre = c.requires in
    let a = c.args in
    let l = c.loop-i in
    let n = a.n in
    let matrix : c.row_at-matrix.result.now ≡ block_at a.a.now (n * bytes_for n) l.i = c.row_at-matrix.ensures.0 ∙ ap (λ (w : ℕ). block_at a.a.now (n * w) l.i) pre.1 in
    let row : c.row_at-row.result.now ≡ block_at a.b.now (bytes_for n) l.i = c.row_at-row.ensures.0 ∙ ap (λ (w : ℕ). block_at a.b.now w l.i) pre.1 in
    changed_more (change a.a.now a.b.now a.y.now a.x.now n) a.errors.now l.errors l.i _ l.invariant
    (c.equation_error.ensures ∙ rw (matrix, row, c.bit_at.ensures))

pub returns : goal.returns
returns c i h =
    let a = c.args in
    let l = c.loop-i in
    changed-all (change a.a.now a.b.now a.y.now a.x.now a.n) a.errors.now l.errors l.i l.invariant (omega arith) (omega arith) i h
