-- `forms_columns::fronts::turn_block` meets its contract: the rows are parted, and the columns put.
-- Assumes nothing.
use Prim.Native.Nat.{◌+◌, ◌*◌, ◌/◌, ◌%◌}
use mathlib.Core.Path.{◌≡◌, ap, ◌∙◌}
use native.Mathlib.Omega.{arith}
use Rattle.strings.specs.Sums.{byte_at}
use Rattle.forms_columns.proofs.fronts.turn_block.Goals as goal

pub returns : goal.returns
returns c =
    let a = c.args in
    let rows = c.copy_apart in
    let cols = c.part in
    let put = c.put_columns in record {
      block_turned = (λ k j hk hj.
          let place : (k * 16 + j) % 16 * 8 + (k * 16 + j) / 16 ≡ j * 8 + k = omega arith in
          put.ensures.by_index k j hk hj ∙ cols.ensures (k * 16 + j) (omega arith) ∙ ap (byte_at rows.new.dst) place ∙ rows.ensures j k hj hk);
      beside_block = put.ensures.beside_block;
    }
