-- `trees::opened_leaf` meets its contract. The row at the leaf's place is the opened leaf, by definition.
-- Assumes nothing.
use mathlib.Core.Path.{ap, ◌∙◌}
use Rattle.protocol.specs.Lists.{block_at}
use Rattle.protocol.specs.Leaves.{opened_leaf}
use Rattle.trees.proofs.opened_leaf.Goals as goal

pub row_at-requires : goal.row_at-requires
row_at-requires c = rw c.place_of.ensures c.requires.1

pub returns : goal.returns
unfolding opened_leaf
returns c =
    let a = c.args in
    (c.row_at.ensures.0 ∙ ap (block_at a.tree.now a.w) c.place_of.ensures, c.row_at.ensures.1)
