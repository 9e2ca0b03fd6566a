-- `tables_opened::load_opened` meets its contract. The invariant: the lanes of the repetitions below e are done.
-- Assumes nothing.
use Prim.Native.Nat.{◌^◌}
use Rattle.tables_opened.specs.Opened.{OpenedTableIs}
use Rattle.tables_opened.proofs.load_opened.Given as goal

abbrev pub invariant-loop-e : goal.invariant-loop-e
invariant-loop-e l =
    OpenedTableIs l.table l.opened l.delta l.corrections l.e l.w (2 ^ l.r)
