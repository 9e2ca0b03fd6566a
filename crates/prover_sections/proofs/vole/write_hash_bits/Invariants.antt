-- `prover_sections::vole::write_hash_bits` meets its contract. The invariant: the bits below rho are done, the others
-- are 0.
-- Assumes nothing.
use Prim.Native.Nat.{ℕ, ◌*◌, ◌≤◌, ◌<◌}
use mathlib.Core.Path.{◌≡◌}
use lib.ListN.{length}
use Rattle.protocol.specs.Strings.{bit}
use Rattle.strings.specs.Sums.{byte_at}
use Rattle.prover_sections.specs.Hash.{hash_bit}
use Rattle.prover_sections.proofs.vole.write_hash_bits.Given as goal

abbrev pub invariant-loop-rho : goal.invariant-loop-rho
invariant-loop-rho l = let matrix = l.matrix in let u = l.u in let k = l.k in let out = l.out in let rho = l.rho in ((c : ℕ) → c < rho → bit out c ≡ hash_bit matrix u k c) × ((i : ℕ) → byte_at out i < 256) × ((c : ℕ) → rho ≤ c → c < length out * 8 → bit out c ≡ 0)
