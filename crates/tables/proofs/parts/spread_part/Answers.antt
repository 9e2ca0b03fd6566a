-- `tables::parts::spread_part` meets its contract. The columns that are turned are the coordinates of the planes.
-- Assumes nothing.
use mathlib.Core.Path.{◌∙◌}
use native.Mathlib.Omega.{arith}
use Rattle.theorems.proofs.StringLaws.{bits_congr}
use Rattle.tables.proofs.LaneLaws.{part-bit}
use Rattle.tables.proofs.parts.spread_part.Goals as goal

pub returns : goal.returns
returns c =
    let a = c.args in
    let put = c.put_lane in
    let turned = c.turn_rows.ensures in
    record { by_index = λ i h. put.ensures.by_index i h ∙ bits_congr 8 _ _ (λ p k. turned i p h k ∙ part-bit a.planes.now a.w a.at p i (omega arith) h); by_index_2 = put.ensures.by_index_2 }
