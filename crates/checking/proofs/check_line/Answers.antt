-- `checking::check_line` meets its contract.
-- Assumes nothing.
use Rattle.protocol.specs.Check.{check_line}
use Rattle.checking.proofs.check_line.Goals as goal

pub returns : goal.returns
unfolding check_line
returns c = record { value = rw (← c.read_and_verify.ensures) c.write_line.ensures.value; line = rw (← c.read_and_verify.ensures) c.write_line.ensures.line }
