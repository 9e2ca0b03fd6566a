-- `shake::pad` meets its contract. Assumes nothing.
use Prim.Native.Nat.{ℕ, ◌*◌, ◌/◌, ◌%◌, ◌^◌}
use mathlib.Core.Path.{ap}
use mathlib.Core.List.{List}
use native.Mathlib.Omega.{arith}
use lib.ListN.{get_or, set}
use lib.Bits.{bit_xor}
use lib.Pow.{shl_exact}
use lib.Dec.{lit<}
use Rattle.sponge.specs.Sponge.{added, last_bit}
use Rattle.shake.proofs.pad.Goals as goal

pub returns : goal.returns
unfolding added
returns c =
    let s = c.args.lanes.now in
    let at = c.args.at in
    let first : ℕ → List ℕ = λ x. set s (at / 8) (bit_xor (get_or s (at / 8) 0) x) in
    ap (λ x. set (first x) 16 (bit_xor (get_or (first x) 16 0) (last_bit * 2 ^ 56))) (shl_exact 8 (8 * (at % 8)) 64 (lit< tt) (omega arith))
