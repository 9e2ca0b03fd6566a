-- `forms_planes::add_byte` meets its contract: one byte is changed.
-- Assumes nothing.
use Prim.Native.Nat.{◌+◌, ◌*◌, ◌<◌}
use native.Mathlib.Omega.{arith}
use lib.ListN.{length}
use lib.Seq.{get_or-set_same, get_or-set_other}
use Rattle.chunks.specs.Chunks.{chunk}
use Rattle.forms_planes.proofs.add_byte.Goals as goal

pub returns : goal.returns
returns c =
    let a = c.args in
    let t = a.t.now in
    let at = a.s * chunk + a.f in
    let fits : at < length t = omega arith in
    record { f_after = get_or-set_same t at _ 0 fits; by_index = λ q g other h. get_or-set_other t at (q * chunk + g) _ 0 (λ e. other (omega arith) (omega arith)) }
