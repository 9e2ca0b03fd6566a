-- `solfadrus::calls::hash` meets its contract: its verdict is what its questions told.
-- Assumes nothing.
use mathlib.Core.Path.{◌∙◌}
use Rattle.solfadrus.proofs.calls.hash.Goals as goal

pub returns : goal.returns
returns c = record { result_value = c.from.ensures ∙ c.try_hash.ensures.result_value; hash_output = rw c.from.ensures c.try_hash.ensures.hash_output }
