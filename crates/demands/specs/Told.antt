-- What an export tells C.
--   Writes answer before after string r == r is the word of the answer, and the output holds `string` after an accepted
--     call, and else what it held before
--   CommitOutput .. before after a, HashOutput, BatchOutput, ProveOutput == after the answer a the output holds the
--     call's bytes where it is accepted, and else what it held before
-- Assumes nothing.
use Rattle.std.specs.Prelude.{◌≡◌, List, ℕ}
use Rattle.protocol.specs.Setting.{Setting, alphabet_of}
use Rattle.protocol.specs.Prover.{commit_bytes, hash_bytes, batch_bytes, proof_of}
use Rattle.protocol.specs.Answers.{Answer, word, written}

abbrev pub Writes : Answer → List ℕ → List ℕ → List ℕ → ℕ → Type 0
Writes answer before after string r = (r ≡ word answer) × (after ≡ written answer before string)

module _ (g : Setting) (key leaves : List ℕ) where
  abbrev pub CommitOutput : List ℕ → List ℕ → List ℕ → Answer → Type 0
  CommitOutput x before after a = after ≡ written a before (commit_bytes (alphabet_of g) key leaves x)

  abbrev pub HashOutput : List ℕ → List ℕ → List ℕ → Answer → Type 0
  HashOutput H' before after a = after ≡ written a before (hash_bytes (alphabet_of g) key leaves H')

  abbrev pub BatchOutput : List ℕ → List ℕ → List ℕ → List ℕ → Answer → Type 0
  BatchOutput x χ before after a = after ≡ written a before (batch_bytes (alphabet_of g) key leaves x χ)

  abbrev pub ProveOutput : List ℕ → List ℕ → List ℕ → List ℕ → List ℕ → Answer → Type 0
  ProveOutput x H' χ before after a = after ≡ written a before (proof_of (alphabet_of g) key leaves x H' χ)
