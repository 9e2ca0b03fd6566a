-- `strings::xor_bit` meets its contract. One byte is changed, at one place.
-- Assumes nothing.
use Prim.Native.Nat.{◌%◌, ◌^◌, ◌*◌}
use mathlib.Core.Path.{◌≡◌}
use native.Mathlib.Omega.{arith}
use Rattle.strings.proofs.BitLaws.{bit_shifted, added-same, added-other}
use Rattle.strings.proofs.xor_bit.Goals as goal

pub returns : goal.returns
returns c =
    let a = c.args in
    let e : a.q * 2 ^ (a.c % 8) % 256 ≡ a.q * 2 ^ (a.c % 8) = bit_shifted a.q (a.c % 8) (omega arith) (omega arith) in
    rw e (record { c_after = added-same a.s.now a.c a.q (omega arith) (omega arith); by_index = added-other a.s.now a.c a.q (omega arith) (omega arith) })
