-- `solfadrus::calls::prove` meets its contract: its verdict is what its questions told.
-- Assumes nothing.
use mathlib.Core.Path.{◌∙◌}
use Rattle.solfadrus.proofs.calls.prove.Goals as goal

pub returns : goal.returns
returns c = record { result_value = c.from.ensures ∙ c.try_prove.ensures.result_value; prove_output = rw c.from.ensures c.try_prove.ensures.prove_output }
