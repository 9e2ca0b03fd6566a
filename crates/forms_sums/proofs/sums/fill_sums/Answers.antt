-- `forms_sums::sums::fill_sums` meets its contract. The invariant: the groups below g are filled.
-- Assumes nothing.
use Prim.Native.Nat.{ℕ, ◌+◌, ◌*◌, ◌-◌, ◌<◌}
use mathlib.Core.List.{List}
use mathlib.Core.Path.{◌≡◌, refl, ◌∙◌}
use native.Mathlib.Decide.{dec_lt}
use native.Mathlib.Omega.{arith}
use Rattle.chunks.specs.Chunks.{chunk, cell_at}
use Rattle.forms_choices.specs.Entries.{entry_byte, Tabled}
use Rattle.forms_sums.proofs.EntryLaws.{entry_is}
use Rattle.forms_sums.proofs.sums.fill_sums.Goals as goal

-- one group more
tabled-more : (S old new : List ℕ) (g : ℕ) → Tabled S old (g * 32) → ((v f : ℕ) → v < 32 → f < chunk → cell_at new (g * 32 + v) f ≡ entry_byte S (g * 32 + v) f)
    → ((q f : ℕ) → q < g * 32 → f < chunk → cell_at new q f ≡ cell_at old q f) → Tabled S new ((g + 1) * 32)
tabled-more S old new g tabled made kept q f h k = go (dec_lt q (g * 32))
  where
    go : Dec (q < g * 32) → cell_at new q f ≡ entry_byte S q f
    go (yes l) = kept q f l k ∙ tabled q f l k
    go (no l) = let at : q ≡ g * 32 + (q - g * 32) = omega arith in rw at (made (q - g * 32) f (omega arith) k)

pub loop-g-init : goal.loop-g-init
loop-g-init c = λ q f h. absurd (omega arith)

pub fill_group-requires : goal.fill_group-requires
fill_group-requires c = (omega arith, c.requires.1, refl, omega arith, omega arith, omega arith)

pub loop-g-preserved : goal.loop-g-preserved
loop-g-preserved c =
    let l = c.loop-g in
    let T = c.args.table.now in
    let done = c.fill_group in
    tabled-more T l.sums done.new.sums l.g l.invariant (λ v e h k. done.ensures.group_filled v e h k ∙ entry_is T l.g v e h) done.ensures.by_index

pub returns : goal.returns
returns c =
    let l = c.loop-g in
    λ q f h k. l.invariant q f (omega arith) k
