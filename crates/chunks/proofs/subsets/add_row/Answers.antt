-- `chunks::subsets::add_row` meets its contract. Past the last row the table reads 0.
-- Assumes nothing.
use Prim.Native.Nat.{ℕ, ◌+◌, ◌*◌, ◌≤◌}
use native.Mathlib.Nat.{mul-le-mul_right}
use mathlib.Core.List.{List}
use mathlib.Core.Path.{sym, ap, ◌∙◌}
use native.Mathlib.Omega.{arith}
use lib.ListN.{length, get_or-eq_default}
use lib.Bits.{bit_xor, xor_zero_r}
use Rattle.strings.specs.Sums.{byte_at}
use Rattle.strings.proofs.Rows.{row-byte, row-end}
use Rattle.chunks.proofs.subsets.add_row.Goals as goal

pub row_at-requires : goal.row_at-requires
row_at-requires c =
    let a = c.args in
    omega (arith, c.requires, row-end a.c a.n (length a.dst.now) (omega arith))

pub returns-then-c-n : goal.returns-then-c-n
returns-then-c-n c =
    let a = c.args in
    let row = c.row_at in
    λ f h. c.xor_into.ensures f h ∙ ap (bit_xor (byte_at a.dst.now f)) (ap (λ (r : List ℕ). byte_at r f) row.ensures.0 ∙ row-byte a.table.now (length a.dst.now) a.c f h)

pub returns-else-c-n : goal.returns-else-c-n
returns-else-c-n c =
    let a = c.args in
    λ f h.
    let rows : a.n * length a.dst.now ≤ a.c * length a.dst.now = mul-le-mul_right (length a.dst.now) (omega arith) in
    let past : length a.table.now ≤ a.c * length a.dst.now + f = omega (arith, rows, c.requires) in
    sym (ap (bit_xor (byte_at a.dst.now f)) (get_or-eq_default a.table.now 0 past) ∙ xor_zero_r (byte_at a.dst.now f))
