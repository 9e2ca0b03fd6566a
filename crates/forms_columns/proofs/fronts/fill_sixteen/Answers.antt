-- `forms_columns::fronts::fill_sixteen` meets its contract: the coordinates go by eights.
-- Assumes nothing.
use Rattle.forms_columns.proofs.FrontLaws.{sixteen_is, sixteen_kept}
use Rattle.forms_columns.proofs.fronts.fill_sixteen.Goals as goal

pub returns : goal.returns
returns c =
    let a = c.args in
    let one = c.turn_block in
    let two = c.turn_block-2 in
    let few = c.requires.2 in record {
      by_index = sixteen_is a.b a.first a.vectors.now a.front.now one.new.dst two.new.dst few one.ensures.block_turned one.ensures.beside_block two.ensures.block_turned two.ensures.beside_block;
      by_index_2 = sixteen_kept a.b a.first a.vectors.now a.front.now one.new.dst two.new.dst few one.ensures.block_turned one.ensures.beside_block two.ensures.block_turned two.ensures.beside_block;
    }
