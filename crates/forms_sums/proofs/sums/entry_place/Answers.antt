-- `forms_sums::sums::entry_place` meets its contract.
-- Assumes nothing.
use mathlib.Core.Path.{refl}
use native.Mathlib.Nat.{mod-lt}
use native.Mathlib.Omega.{arith}
use Rattle.forms_choices.specs.Entries.{five}
use Rattle.forms_sums.proofs.sums.entry_place.Goals as goal

pub returns : goal.returns
unfolding five
returns c = (refl, mod-lt _ (omega arith))
