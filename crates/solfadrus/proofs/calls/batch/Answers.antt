-- `solfadrus::calls::batch` meets its contract: its verdict is what its questions told.
-- Assumes nothing.
use mathlib.Core.Path.{◌∙◌}
use Rattle.solfadrus.proofs.calls.batch.Goals as goal

pub returns : goal.returns
returns c = record { result_value = c.from.ensures ∙ c.try_batch.ensures.result_value; batch_output = rw c.from.ensures c.try_batch.ensures.batch_output }
