-- `checking::input::read_lengths` meets its contract. The loop's invariant: the lengths so far are those of the
-- sections before `next`, and from there on the others have still to follow.
-- Assumes nothing.
use mathlib.Core.Path.{◌≡◌}
use Prim.Native.Nat.{◌-◌, ◌≤◌}
use lib.ListN.{length, take, drop}
use Rattle.protocol.specs.Frames.{framed, framed_length}
use Rattle.protocol.specs.Check.{lengths_in}
use Rattle.checking.proofs.input.read_lengths.Given as goal

abbrev pub invariant-loop-i : goal.invariant-loop-i
invariant-loop-i l =
    (length l.lengths ≡ 6) × (l.next ≤ length l.s) × (take l.i l.lengths ≡ lengths_in l.i l.s) × (l.next ≡ framed_length (lengths_in l.i l.s))
    × (framed (lengths_in 6 l.s) l.s ≡ framed (lengths_in (6 - l.i) (drop l.next l.s)) (drop l.next l.s))
