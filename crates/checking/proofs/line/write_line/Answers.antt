-- `checking::line::write_line` meets its contract, case by case.
-- Assumes nothing.
use Rattle.protocol.specs.Check.{line_of}
use Rattle.checking.proofs.line.write_line.Goals as goal

pub returns-in-None : goal.returns-in-None
unfolding line_of
returns-in-None c = record { value = rw c.in-None.is c.put_line.ensures.value; line = rw c.in-None.is c.put_line.ensures.put }

pub returns-in-Accepted : goal.returns-in-Accepted
unfolding line_of
returns-in-Accepted c =
    record { value = rw (c.in-Some.is, c.in-Accepted.is) c.put_line-in-Accepted.ensures.value; line = rw (c.in-Some.is, c.in-Accepted.is) c.put_line-in-Accepted.ensures.put }

pub returns-in-Refused : goal.returns-in-Refused
unfolding line_of
returns-in-Refused c =
    record { value = rw (c.in-Some.is, c.in-Refused.is, ← c.from-number.ensures.0, ← c.from-place.ensures) c.put_line-in-Refused.ensures.value; line = rw (c.in-Some.is, c.in-Refused.is, ← c.from-number.ensures.0, ← c.from-place.ensures) c.put_line-in-Refused.ensures.put }
