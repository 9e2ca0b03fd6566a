-- `rows::spare::spare_bits` meets its contract. The loop's invariant: what was found is 0 exactly where the rows
-- passed have spare bits 0 (`SpareLaws`).
-- Assumes nothing.
use mathlib.Core.Path.{◌≡◌}
use Prim.Native.Nat.{◌+◌, ◌*◌, ◌≤◌}
use native.Mathlib.Omega.{arith}
use lib.ListN.{length}
use Rattle.rows.proofs.SpareLaws.{no_rows, row_fits, rows_more}
use Rattle.rows.proofs.spare.spare_bits.Goals as goal

-- the row of this turn lies within s
turn : (c : goal.In-loop-i) →
    (1 ≤ c.loop-i.i * c.bytes_for-width.result + c.bytes_for-width.result)
    × (c.loop-i.i * c.bytes_for-width.result + c.bytes_for-width.result ≤ length c.args.s.now)
turn c =
    rw c.bytes_for-width.ensures (row_fits c.args.s.now c.args.bits c.args.rows c.requires.0 c.requires.1 (λ i. (c.type_inv.s i).fits) c.loop-i.i c.loop-i-test.true)

pub loop-i-init : goal.loop-i-init
loop-i-init c = no_rows c.args.bits c.args.s.now

pub overflow_mul-found : goal.overflow_mul-found
overflow_mul-found c = omega (arith, turn c)

pub overflow_add-found : goal.overflow_add-found
overflow_add-found c = omega (arith, turn c)

pub overflow_sub-found : goal.overflow_sub-found
overflow_sub-found c = omega (arith, turn c)

pub bounds-s-i : goal.bounds-s-i
bounds-s-i c =
    let at : (1 ≤ c.loop-i.i * c.bytes_for-width.result + c.bytes_for-width.result)
    × (c.loop-i.i * c.bytes_for-width.result + c.bytes_for-width.result ≤ length c.args.s.now) =
    rw c.bytes_for-width.ensures (row_fits c.args.s.now c.args.bits c.args.rows c.requires.0 c.requires.1 (λ i. (c.type_inv.s i).fits) c.loop-i.i c.loop-i-test.true) in
    omega (arith, at)

pub loop-i-preserved : goal.loop-i-preserved
loop-i-preserved c =
    let l = c.loop-i in
    rw c.bytes_for-width.ensures
    (rows_more c.args.s.now c.args.bits c.args.rows c.requires.0 c.requires.1 (λ i. (c.type_inv.s i).fits) l.i l.found c.loop-i-test.true l.invariant)

pub returns : goal.returns
returns c =
    let e : c.loop-i.i ≡ c.args.rows = omega arith in
    rw (← e) c.loop-i.invariant
