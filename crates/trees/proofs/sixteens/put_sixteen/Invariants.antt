-- `trees::sixteens::put_sixteen` meets its contract. The invariant: i bytes are put, and the others are as they were.
-- Assumes nothing.
use Rattle.strings.specs.Sums.{byte_at}
use Rattle.trees.proofs.SixteenLaws.{Changed}
use Rattle.trees.proofs.sixteens.put_sixteen.Given as goal

abbrev pub invariant-loop-i : goal.invariant-loop-i
invariant-loop-i l = Changed (λ k x. byte_at l.sum k) l.initial.out l.out l.from l.i
