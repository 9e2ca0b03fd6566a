-- `hash::vectors::fill_entries` meets its contract: the coordinates that the block covers are that part of the table.
-- Assumes nothing.
use mathlib.Core.Path.{ap, ◌∙◌}
use mathlib.Core.List.{List}
use Prim.Native.Nat.{ℕ}
use Rattle.hash.specs.Entries.{entry_lane}
use Rattle.hash.proofs.vectors.fill_entries.Goals as goal

pub returns : goal.returns
returns c =
    λ n e h l. c.fill_sums.ensures n e h l ∙ ap (λ (T : List ℕ). entry_lane T n e) c.part_of-front.ensures.0
