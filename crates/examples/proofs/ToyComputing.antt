-- The definitions that the toy is computed through.
--   computing == names nothing: a declaration that says `unfolding computing` computes with all of them
-- Assumes nothing.
use Prim.Native.Nat.{ℕ}
use Rattle.protocol.proofs.Computing.{computing as definitions}
use Rattle.examples.specs.Toy.{key_with, leaves, proof_with}

unfoldable pub computing : ℕ
unfolding definitions key_with leaves proof_with
computing = 0
