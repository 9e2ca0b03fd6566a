-- `format::sizes::tree_leaves` meets its contract.
-- Assumes nothing.
use native.Mathlib.Omega.{arith}
use Rattle.galois.specs.Degrees.{field_of, size_of}
use Rattle.galois.proofs.DegreeLaws.{size-most}
use Rattle.protocol.specs.Shape.{per_tree}
use Rattle.format.proofs.sizes.tree_leaves.Goals as goal

pub returns : goal.returns
unfolding size_of per_tree
returns c =
    let d = c.args.s.degree in
    (c.size_of.ensures, rw c.size_of.ensures (size-most d), rw c.size_of.ensures (omega (arith, (field_of d).base.four≤size)))
