-- `verifier_consistency::first_masked` meets its contract: the masks are those of ũ.
-- Assumes nothing.
use Rattle.verifier_consistency.proofs.first_masked.Goals as goal

pub returns : goal.returns
returns c = c.first_of.ensures c.args.u.now c.fill_masks.ensures
