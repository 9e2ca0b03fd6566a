-- `forms_pieces::widen` meets its contract. Each element is changed once (`Elementwise`).
-- Assumes nothing.
use Rattle.std.proofs.Common.{ℕ, ◌*◌, ◌<◌, refl, rules, arith}
use Rattle.strings.specs.Sums.{byte_at}
use Rattle.strings.proofs.Elementwise.{changed, changed_more, changed-all}
use Rattle.forms_pieces.proofs.widen.Goals as goal

pub loop-c-init : goal.loop-c-init
unfolding changed
loop-c-init c = refl

pub overflow_mul-bits : goal.overflow_mul-bits
overflow_mul-bits c =
    let small : byte_at c.args.xs.now c.loop-c.c < 2 = c.requires.1 c.loop-c.c in
    search (rules, small)

pub loop-c-preserved : goal.loop-c-preserved
loop-c-preserved c =
    let a = c.args in
    let l = c.loop-c in
    changed_more (λ (k x : ℕ). byte_at a.xs.now k * 255) a.bits.now l.bits l.c _ l.invariant refl

pub returns : goal.returns
returns c =
    let a = c.args in
    let l = c.loop-c in
    λ i h. changed-all (λ (k x : ℕ). byte_at a.xs.now k * 255) a.bits.now l.bits l.c l.invariant (omega arith) (omega arith) i (omega arith)
