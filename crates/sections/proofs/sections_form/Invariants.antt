-- `sections::sections_form` meets its contract. The loop's invariant: from where it stands, the lengths that are left
-- have still to follow.
-- Assumes nothing.
use mathlib.Core.Path.{◌≡◌}
use Prim.Native.Nat.{◌≤◌}
use lib.ListN.{length, drop}
use Rattle.protocol.specs.Frames.{framed}
use Rattle.sections.proofs.sections_form.Given as goal

abbrev pub invariant-loop-length : goal.invariant-loop-length
invariant-loop-length l = (l.next ≤ length l.s) × (framed l.lengths (drop l.at l.s) ≡ framed (drop l.length-index l.lengths) (drop l.next l.s))
