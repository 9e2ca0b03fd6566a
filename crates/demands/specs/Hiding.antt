-- Request 8 of the calls: what mq_prove wrote favours no solution.
--   SameBytes g key leaves' x' H' χ before after leaves Δ == with leaves' and x' mq_prove answers 0 and writes `after`
--     over `before`, and what is opened of leaves' at Δ is what is opened of `leaves`
-- Each statement is of any output that mq_prove may be lent, of every witness that mq_test takes, and of every Δ that
-- mq_verify takes, 0 included.
-- Assumes nothing.
use Rattle.std.specs.Prelude.{◌≡◌, true, List, ℕ, length}
use Rattle.protocol.specs.Strings.{bytes}
use Rattle.protocol.specs.Alphabet.{Alphabet, elements_in}
use Rattle.protocol.specs.Setting.{Setting, alphabet_of}
use Rattle.protocol.specs.Shape.{shape_of}
use Rattle.protocol.specs.Counting.{opening}
use Rattle.hiding.specs.Hidden.{HiddenForm, with_hidden}
use Rattle.hiding.specs.Hiding.{ExactlyOne}
use Rattle.demands.specs.Demands.{TestTold, ProveWrites}

module _ (g : Setting) where
  abbrev pub A : Alphabet
  A = alphabet_of g

  abbrev pub SameBytes : List ℕ → List ℕ → List ℕ → List ℕ → List ℕ → List ℕ → List ℕ → List ℕ → List ℕ → Type 0
  SameBytes key leaves' x' H' χ before after leaves Δ = (opening A (shape_of key) leaves' Δ ≡ opening A (shape_of key) leaves Δ) × ProveWrites g key leaves' x' H' χ before after 0

  module _ (key leaves x H' χ before after Δ x' before' : List ℕ) where
    -- "For each witness that solves the system, exactly one choice of hidden leaves with spare bits 0 yields that same
    -- view."
    abbrev pub WrittenKeepsWitness : Type 0
    WrittenKeepsWitness = ProveWrites g key leaves x H' χ before after 0 → length Δ ≡ (shape_of key).τ → elements_in A Δ ≡ true → TestTold g key x' 0 → length before' ≡ length before
        → ExactlyOne (λ hidden. HiddenForm A (shape_of key) hidden × SameBytes key (with_hidden A (shape_of key) leaves Δ hidden) x' H' χ before' after leaves Δ)

    -- The same of full leaves: exactly one string of bytes, lent as the leaves beside x', makes mq_prove write these
    -- bytes and opens to these leaves.
    abbrev pub WrittenFavoursNone : Type 0
    WrittenFavoursNone = ProveWrites g key leaves x H' χ before after 0 → bytes leaves → length Δ ≡ (shape_of key).τ → elements_in A Δ ≡ true → TestTold g key x' 0 → length before' ≡ length before
        → ExactlyOne (λ leaves'. bytes leaves' × SameBytes key leaves' x' H' χ before' after leaves Δ)

  pub record CallsKeepWitness : Type 0 where
    pub keeps-witness : (key leaves x H' χ before after Δ x' before' : List ℕ) → WrittenKeepsWitness key leaves x H' χ before after Δ x' before'
    pub favours_none : (key leaves x H' χ before after Δ x' before' : List ℕ) → WrittenFavoursNone key leaves x H' χ before after Δ x' before'
