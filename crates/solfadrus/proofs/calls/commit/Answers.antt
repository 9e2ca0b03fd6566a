-- `solfadrus::calls::commit` meets its contract: its verdict is what its questions told.
-- Assumes nothing.
use mathlib.Core.Path.{◌∙◌}
use Rattle.solfadrus.proofs.calls.commit.Goals as goal

pub returns : goal.returns
returns c = record { result_value = c.from.ensures ∙ c.try_commit.ensures.result_value; commit_output = rw c.from.ensures c.try_commit.ensures.commit_output }
