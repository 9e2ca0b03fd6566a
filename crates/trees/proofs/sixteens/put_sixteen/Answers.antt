-- `trees::sixteens::put_sixteen` meets its contract. The invariant: i bytes are put, and the others are as they were.
-- Assumes nothing.
use Rattle.std.proofs.Common.{◌≡◌, refl, arith}
use Rattle.strings.specs.Sums.{byte_at}
use Rattle.trees.proofs.SixteenLaws.{changed-none, changed-next}
use Rattle.trees.proofs.sixteens.put_sixteen.Goals as goal

pub loop-i-init : goal.loop-i-init
loop-i-init c = changed-none (λ k x. byte_at c.args.sum.now k) c.args.out.now c.args.from

pub loop-i-preserved : goal.loop-i-preserved
loop-i-preserved c =
    let a = c.args in
    let l = c.loop-i in
    changed-next (λ k x. byte_at a.sum.now k) a.out.now l.out a.from l.i _ (omega arith) refl l.invariant

pub returns : goal.returns
returns c =
    let l = c.loop-i in
    let end : l.i ≡ 16 = omega arith in
    let done = rw end at l.invariant in
    record { by_index = done.0; by_index_2 = done.1 }
