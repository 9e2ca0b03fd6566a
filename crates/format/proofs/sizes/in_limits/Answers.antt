-- `format::sizes::in_limits` meets its contract. Each size is tested against its own limit.
-- Assumes nothing.
use Rattle.protocol.specs.Shape.{limits}
use Rattle.format.proofs.AllLaws.{all-four}
use Rattle.format.proofs.sizes.in_limits.Goals as goal

pub returns : goal.returns
unfolding limits
returns c = all-four c.in_range.ensures c.in_range-2.ensures c.in_range-3.ensures c.in_range-4.ensures
