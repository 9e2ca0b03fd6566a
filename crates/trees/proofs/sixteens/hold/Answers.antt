-- `trees::sixteens::hold` meets its contract: `Running` holds of no leaf, and then of those below each cut, up to all.
-- Assumes nothing.
use Rattle.std.proofs.Common.{◌≡◌, ℕ, ◌+◌, ◌*◌, ◌-◌, ◌/◌, ◌<◌, List, refl, ◌∙◌, arith}
use Rattle.strings.specs.Sums.{byte_at}
use Rattle.strings.proofs.SumLaws.{sum_same, sum-none}
use Rattle.trees.specs.Trees.{leaf_byte}
use Rattle.trees.specs.Partial.{held_plane, RunningHeld}
use Rattle.trees.proofs.PartialLaws.{running_none}
use Rattle.trees.proofs.FourLaws.{below-leaf, above-leaf, before-fits, after-fits, cut-out_min}
use Rattle.trees.proofs.sixteens.hold.Goals as goal

-- of no leaf, nothing is held
nothing-held : (f : ℕ → ℕ → ℕ) (sum held : List ℕ) → ((i : ℕ) → i < 16 → byte_at sum i ≡ 0) → ((i : ℕ) → i < 144 → byte_at held i ≡ 0) → RunningHeld f 8 sum held 0
nothing-held f sum held no-sum no_rows =
    running_none f 8 16 (byte_at sum) (held_plane held 8) no-sum
    (λ p b hp hb. sum_same (8 + 1 - p) _ (λ k. 0) (λ k h. no_rows (k * 16 + b) (omega arith)) ∙ sum-none (8 + 1 - p))

pub hold_fours-requires : goal.hold_fours-requires
hold_fours-requires c =
    let a = c.args in
    let fits = c.requires.fits in
    let cut = c.min.result / 4 * 4 in
    (omega arith, omega arith, fits.1, omega arith, omega arith, λ lt. (refl, omega arith, before-fits a.tree.now a.w a.delta a.count fits.2 cut (omega arith) (omega arith) lt))

pub hold_leaves-requires : goal.hold_leaves-requires
hold_leaves-requires c =
    (omega arith, omega arith, c.requires.fits.1, λ j lt other. c.requires.fits.2 j (omega arith) other)

pub hold_fours-requires-then-cut-count : goal.hold_fours-requires-then-cut-count
hold_fours-requires-then-cut-count c =
    let a = c.args in
    let fits = c.requires.fits in
    let next = c.min-next.result in (
      omega arith,
      omega arith,
      fits.1,
      omega arith,
      omega arith,
      λ lt.
          let cut = cut-out_min a.delta a.count next (omega arith) (omega arith) in
          (cut.0, omega arith, after-fits a.tree.now a.w a.delta a.count fits.2 (next + (a.count - next) / 4 * 4) (omega arith) (omega arith)),
    )

pub hold_leaves-requires-then-cut-count : goal.hold_leaves-requires-then-cut-count
hold_leaves-requires-then-cut-count c = (omega arith, c.requires.fits.0, c.requires.fits.1, c.requires.fits.2)

pub returns-then-cut-count : goal.returns-then-cut-count
returns-then-cut-count c =
    let a = c.args in
    let tree = a.tree.now in
    let f : ℕ → ℕ → ℕ = λ i b. leaf_byte tree a.w a.delta i (a.at + b) in
    let next = c.min-next.result in
    let run0 = nothing-held f a.sum.now a.held.now c.requires.nothing.0 c.requires.nothing.1 in
    let run1 = c.hold_fours.ensures f (λ i low high b hb. below-leaf tree a.w a.delta i (omega arith) (a.at + b)) run0 in
    let run2 = c.hold_leaves.ensures run1 in
    let run3 =
    c.hold_fours-then-cut-count.ensures f
    (λ i low high b hb.
    let cut = cut-out_min a.delta a.count next (omega arith) (omega arith) in
    above-leaf tree a.w a.delta i (omega arith) (a.at + b)) run2 in
    c.hold_leaves-then-cut-count.ensures run3

pub returns-else-cut-count : goal.returns-else-cut-count
returns-else-cut-count c =
    let a = c.args in
    let tree = a.tree.now in
    let f : ℕ → ℕ → ℕ = λ i b. leaf_byte tree a.w a.delta i (a.at + b) in
    let run0 = nothing-held f a.sum.now a.held.now c.requires.nothing.0 c.requires.nothing.1 in
    let run1 = c.hold_fours.ensures f (λ i low high b hb. below-leaf tree a.w a.delta i (omega arith) (a.at + b)) run0 in
    let all : c.min.result / 4 * 4 ≡ a.count = omega arith in
    rw all at run1
