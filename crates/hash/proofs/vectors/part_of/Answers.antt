-- `hash::vectors::part_of` meets its contract. The part has the length asked for.
-- Assumes nothing.
use mathlib.Core.Path.{◌≡◌}
use Prim.Native.Nat.{◌+◌, ◌-◌}
use native.Mathlib.Nat.{add-sub_cancel_left}
use native.Mathlib.Omega.{arith}
use lib.ListN.{length-take, length-drop}
use Rattle.protocol.specs.Lists.{part}
use Rattle.hash.proofs.vectors.part_of.Goals as goal

pub returns : goal.returns
unfolding part
returns c =
    let a = c.args in
    let e : a.at + a.len - a.at ≡ a.len = add-sub_cancel_left a.at a.len in
    (rw e, rw e (simp (length-take, length-drop) (omega arith)))
