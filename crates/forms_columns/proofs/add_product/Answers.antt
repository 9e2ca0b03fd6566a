-- `forms_columns::add_product` meets its contract.
-- Assumes nothing.
use Prim.Native.Nat.{ℕ}
use mathlib.Core.Path.{ap, ◌∙◌}
use mathlib.Core.List.{List}
use lib.Bits.{bit_xor}
use Rattle.strings.specs.Sums.{byte_at}
use Rattle.strings.proofs.Rows.{row-byte}
use Rattle.lanes.specs.Lanes.{lanes}
use Rattle.forms_columns.specs.Stacks.{byte_product}
use Rattle.forms_columns.proofs.add_product.Goals as goal

pub returns : goal.returns
unfolding byte_product
returns c e h =
    let a = c.args in
    c.accumulate.ensures e h
    ∙ ap (λ (x : ℕ). bit_xor (byte_at a.acc.now e) (byte_product a.degree x (byte_at a.u.now e))) (ap (λ (r : List ℕ). byte_at r e) c.row_of.ensures ∙ row-byte a.front.now lanes a.k e h)
