-- `tables::gathered` meets its contract. The invariant: the sum has the bits of the planes below p, each at its place.
-- Assumes nothing.
use Prim.Native.Nat.{◌+◌, ◌*◌, ◌^◌}
use mathlib.Core.Path.{◌≡◌}
use Rattle.strings.specs.Sums.{byte_at, bit_of, xor_sum}
use Rattle.tables.proofs.gathered.Given as goal

abbrev pub invariant-loop-p : goal.invariant-loop-p
invariant-loop-p l = l.sum ≡ xor_sum l.p (λ q. bit_of (byte_at l.planes (q * l.w + l.b)) l.i * 2 ^ q)
