-- `trees::sixteens::sum_sixteen` meets its contract. What is held for plane p adds up to it.
-- Assumes nothing.
use Rattle.std.proofs.Common.{ℕ, ◌+◌, ◌∙◌, arith}
use lib.ListN.{get_or-replicate}
use Rattle.strings.specs.Sums.{byte_at}
use Rattle.trees.specs.Trees.{leaf_byte}
use Rattle.trees.specs.Partial.{Running, held_plane}
use Rattle.trees.proofs.PartialLaws.{running_all}
use Rattle.trees.proofs.SixteenLaws.{summed_more}
use Rattle.trees.proofs.sixteens.sum_sixteen.Goals as goal

pub hold-requires : goal.hold-requires
hold-requires c =
    let pre = c.requires.u_len in
    record { fits = (pre.3, pre.4, pre.5); nothing = (λ i h. get_or-replicate 16 i 0 0 h, λ i h. get_or-replicate 144 i 0 0 h) }

pub returns : goal.returns
returns c =
    let a = c.args in
    let sum = c.hold.new.sum in
    let held = c.hold.new.held in
    let run = c.hold.ensures in
    let rows = c.put_planes in
    let f : ℕ → ℕ → ℕ = λ j b. leaf_byte a.tree.now a.w a.delta j (a.at + b) in
    let known : Running f a.r 16 (byte_at sum) (held_plane held 8) a.count = (run.0, λ p b hp. run.1 p b (omega arith)) in
    let row = c.put_sixteen in
    λ n le done.
    summed_more (leaf_byte a.tree.now a.w a.delta) a.count a.r a.w a.u.now row.new.out a.planes.now rows.new.planes a.at n le done
    (λ b h. row.ensures.by_index b h ∙ run.0 b h)
    (λ b h. row.ensures.by_index_2 b (λ low high. omega arith))
    (λ p b hp h. rows.ensures.by_index p b hp h ∙ running_all f a.r 16 (byte_at sum) (held_plane held 8) a.count known c.requires.by_index p b hp h)
    rows.ensures.by_index_2
