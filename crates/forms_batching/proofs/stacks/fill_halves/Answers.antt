-- `forms_batching::stacks::fill_halves` meets its contract: one half after the other.
-- Assumes nothing.
use Prim.Native.Nat.{zero, suc}
use mathlib.Core.Path.{◌∙◌}
use native.Mathlib.Omega.{arith}
use Rattle.forms_batching.proofs.stacks.fill_halves.Goals as goal

pub returns : goal.returns
returns c zero f h k =
    let first = c.copy_part in
    let second = c.copy_part-2 in
    second.ensures.rows_kept 0 f (λ e. omega arith) k ∙ first.ensures.by_index f k
returns c (suc zero) f h k =
    c.copy_part-2.ensures.by_index f k
returns c (suc (suc q)) f h k = absurd (omega arith)
