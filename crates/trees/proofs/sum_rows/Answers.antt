-- `trees::sum_rows` meets its contract. The invariant: plane p is its sum of the j leaves passed, plus their whole sum
-- where bit p of j is 1.
-- Assumes nothing.
use Rattle.std.proofs.Common.{◌≡◌, ◌+◌, ◌*◌, ◌∙◌, length, arith}
use lib.ListN.{get_or-replicate}
use Rattle.strings.specs.Sums.{byte_at}
use Rattle.strings.proofs.Rows.{row-end}
use Rattle.trees.specs.Trees.{leaf_byte}
use Rattle.trees.proofs.PartialLaws.{running_none, running_more, running_all}
use Rattle.trees.proofs.sum_rows.Goals as goal

pub loop-j-init : goal.loop-j-init
loop-j-init c =
    let a = c.args in
    running_none (leaf_byte a.tree.now a.w a.delta) a.r a.w (byte_at c.fill.new.self) (λ p b. byte_at c.fill-2.new.self (p * a.w + b))
    (λ b h. rw (c.fill.ensures.after (λ y e. e)) (get_or-replicate (length a.u.now) b 0 0 (omega arith)))
    (λ p b hp hb. rw (c.fill-2.ensures.after (λ y e. e)) (get_or-replicate (length a.planes.now) (p * a.w + b) 0 0 (omega (arith, row-end p a.r a.w hp))))

pub add_leaf-requires : goal.add_leaf-requires
add_leaf-requires c =
    let l = c.loop-j in
    let long : length l.u ≡ c.args.w = l.auto.u ∙ omega arith in
    rw long (c.requires.u_len.4 l.j (omega arith))

pub absorb-requires : goal.absorb-requires
absorb-requires c = let rows : length c.loop-j.planes ≡ c.args.r * c.args.w = c.loop-j.auto.planes ∙ omega arith in let long : length c.add_leaf.new.u ≡ c.args.w = c.add_leaf.auto.u ∙ c.loop-j.auto.u ∙ omega arith in (rows ∙ rw long (omega arith), c.requires.u_len.2)

pub loop-j-preserved : goal.loop-j-preserved
loop-j-preserved c =
    let a = c.args in
    let l = c.loop-j in
    let add-u = c.add_leaf in
    let add-planes = c.absorb in
    let long : length l.u ≡ a.w = l.auto.u ∙ omega arith in
    running_more (leaf_byte a.tree.now a.w a.delta) a.r a.w (byte_at l.u) (λ p b. byte_at l.planes (p * a.w + b)) l.j (byte_at add-u.new.u) (λ p b. byte_at add-planes.new.planes (p * a.w + b))
    l.invariant (rw long at add-u.ensures) (rw (add-u.auto.u, long) at add-planes.ensures)

pub returns : goal.returns
returns c =
    let a = c.args in
    let l = c.loop-j in
    let end : l.j ≡ a.count = omega arith in
    let run = rw end at l.invariant in
    (run.0, running_all (leaf_byte a.tree.now a.w a.delta) a.r a.w (byte_at l.u) (λ p b. byte_at l.planes (p * a.w + b)) a.count run c.requires.by_index)
