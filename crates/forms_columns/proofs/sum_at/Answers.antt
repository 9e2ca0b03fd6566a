-- `forms_columns::sum_at` meets its contract: the bytes of two words, added by halves.
-- Assumes nothing.
use Prim.Native.Nat.{ℕ, ◌%◌}
use mathlib.Core.Path.{ap₂, ◌∙◌}
use lib.Bits.{bit_xor}
use Rattle.strings.proofs.WordLaws.{halved, sum-words}
use Rattle.forms_columns.proofs.sum_at.Goals as goal

pub returns : goal.returns
returns c =
    let a = c.args in
    ap₂ (λ (x y : ℕ). halved 1 (halved 2 (halved 4 (bit_xor x y))) % 256) c.word_at.ensures c.word_at-2.ensures
    ∙ sum-words a.s.now a.at (λ i. (c.type_inv.s i).fits)
