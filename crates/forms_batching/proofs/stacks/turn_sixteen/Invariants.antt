-- `forms_batching::stacks::turn_sixteen` meets its contract. The invariant: the first eights of repetitions are turned.
-- Assumes nothing.
use Prim.Native.Nat.{◌*◌}
use Rattle.forms_batching.specs.Batched.{SixteenTurned, BesideSixteen}
use Rattle.forms_batching.proofs.stacks.turn_sixteen.Given as goal

abbrev pub invariant-loop-b : goal.invariant-loop-b
invariant-loop-b l =
    SixteenTurned (l.b * 8) l.c l.table l.vectors × BesideSixteen l.c l.initial.vectors l.vectors
