-- The bits of the hash that the code computes are bits.
-- Assumes nothing.
use mathlib.Core.List.{List}
use Prim.Native.Nat.{ℕ, ◌+◌, ◌*◌, ◌<◌}
use lib.Bits.{xor_lt}
use Rattle.protocol.specs.Lists.{block_at}
use Rattle.protocol.specs.Strings.{bytes_for}
use Rattle.theorems.proofs.StringLaws.{bit_lt}
use Rattle.strings.proofs.ProductLaws.{product_lt}
use Rattle.prover_sections.specs.Hash.{hash_bit}

pub hash_bit_lt : (H' u : List ℕ) (k ρ : ℕ) → hash_bit H' u k ρ < 2
hash_bit_lt H' u k ρ =
    xor_lt 1 _ _ (product_lt (bytes_for k * 8) (block_at H' (bytes_for k) ρ) u) (bit_lt u (k + ρ))
