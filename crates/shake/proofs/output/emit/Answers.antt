-- `shake::output::emit` meets its contract. Three parts are given one after the other.
-- Assumes nothing.
use Prim.Native.Nat.{◌+◌, ◌*◌, ◌/◌, ◌-◌}
use native.Mathlib.Omega.{arith}
use lib.ListN.{length, length-take}
use Rattle.sponge.specs.Sponge.{byte_in}
use Rattle.shake.proofs.MixLaws.{where-words_min}
use Rattle.shake.proofs.EmitLaws.{three-given}
use Rattle.shake.proofs.output.emit.Goals as goal

pub slice_bounds-emit_bytes-end-2 : goal.slice_bounds-emit_bytes-end-2
slice_bounds-emit_bytes-end-2 c = simp length-take (omega arith)

pub emit_bytes-requires : goal.emit_bytes-requires
emit_bytes-requires c = simp length-take (omega arith)

pub returns : goal.returns
returns c =
    let a = c.args in
    let h = c.min-head.result in
    let o = a.out.now in
    let t = h + (length o - h) / 8 * 8 in
    three-given o c.emit_bytes.new.out c.emit_words.new.out c.emit_bytes-2.new.out (byte_in a.lanes.now) a.at h t (omega arith) (omega arith)
    c.emit_bytes.ensures c.emit_words.ensures c.emit_bytes-2.ensures (where-words_min a.at h (length o) c.min-head.ensures)
