-- `verifier::both_checks` meets its contract: the space holds the largest key's table, and so this one's, and the
-- cells.
-- Assumes nothing.
use native.Mathlib.Omega.{arith}
use Rattle.format.specs.Sizes.{setting_for, shape_for}
use Rattle.format.proofs.FitLaws.{room}
use Rattle.verifier.proofs.both_checks.Goals as goal

pub ask_checks-requires : goal.ask_checks-requires
ask_checks-requires c =
    record { verify_facts = c.requires; space_room = (omega (arith, (room (setting_for c.args.s) (shape_for c.args.s) c.requires.0.of-key.in-range).table-room), omega arith) }
