-- `symbols::symbol_at` meets its contract.
-- Assumes nothing.
use Prim.Native.Nat.{ℕ, ◌+◌, ◌*◌, ◌≤◌, ◌<◌}
use mathlib.Core.Path.{ap₂}
use native.Mathlib.Omega.{arith}
use lib.Bits.{bit_xor}
use Rattle.protocol.specs.Strings.{bit}
use Rattle.theorems.proofs.StringLaws.{bit_lt}
use Rattle.symbols.specs.Omega.{omega_byte}
use Rattle.symbols.proofs.symbol_at.Goals as goal

pub overflow_mul-result : goal.overflow_mul-result
overflow_mul-result c =
    let a = c.args in
    let one : bit c.args.s.now (2 * c.args.c + 1) < 2 = bit_lt a.s.now (2 * a.c + 1) in
    let few : c.bit_at-2.result ≤ 1 = omega (arith, one, c.bit_at-2.ensures) in
    omega (arith, few)

pub returns : goal.returns
returns c = ap₂ (λ (x y : ℕ). bit_xor x (y * omega_byte)) c.bit_at.ensures c.bit_at-2.ensures
