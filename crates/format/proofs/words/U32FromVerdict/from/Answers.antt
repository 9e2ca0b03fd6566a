-- A word is made of a verdict as the definition says, case by case.
-- Assumes nothing.
use Rattle.protocol.specs.Answers.{word}
use Rattle.format.proofs.words.U32FromVerdict.from.Goals as goal

pub returns-in-Accepted : goal.returns-in-Accepted
unfolding word
returns-in-Accepted c = rw c.in-Accepted.is

pub returns-in-Refused : goal.returns-in-Refused
unfolding word
returns-in-Refused c = rw (c.in-Refused.is, c.from.ensures.0, c.from-in-Refused.ensures)
