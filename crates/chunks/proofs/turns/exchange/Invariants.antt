-- `chunks::turns::exchange` meets its contract. The invariant: the first j bytes of each half are exchanged.
-- Assumes nothing.
use Rattle.chunks.specs.Turns.{Exchanged}
use Rattle.chunks.proofs.turns.exchange.Given as goal

abbrev pub invariant-loop-j : goal.invariant-loop-j
invariant-loop-j l = Exchanged l.s l.rows l.j l.out
