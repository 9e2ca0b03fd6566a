-- `forms_batching::stacks::turn_sixteen` meets its contract. The invariant: the first eights of repetitions are turned.
-- Assumes nothing.
use mathlib.Core.Path.{refl}
use native.Mathlib.Omega.{arith}
use Rattle.forms_batching.proofs.VectorLaws.{eight-turned, eight_beside}
use Rattle.std.proofs.Common.{ℕ, ◌≡◌, ◌<◌, ◌≤◌, ◌*◌}
use Rattle.std.specs.Int.{div_ceil}
use Rattle.std.proofs.lemmas.Grind.{div_ceil_times}
use Rattle.forms_batching.proofs.stacks.turn_sixteen.Goals as goal

pub loop-b-init : goal.loop-b-init
loop-b-init c = ((λ e j h. absurd (omega arith)), (λ e k h away. refl))

-- where eight repetitions begin
begins : (b tau k : ℕ) → k ≡ div_ceil tau 8 → b < k → b * 8 < tau
begins b tau k is h = omega (arith, is, h, (div_ceil_times tau 8 (omega arith)).1)

pub turn_block-requires : goal.turn_block-requires
turn_block-requires c =
    let under = begins c.loop-b.b c.args.tau _ c.div_ceil-b-end.ensures c.loop-b-test.true in
    (omega arith, omega (arith, under, c.requires), omega (arith, under, c.requires))

pub loop-b-preserved : goal.loop-b-preserved
loop-b-preserved c =
    let a = c.args in
    let l = c.loop-b in
    let done = c.turn_block in (
      eight-turned l.b a.c a.table.now l.vectors done.new.dst (omega (arith, c.requires.2)) done.ensures.block_turned done.ensures.beside_block l.invariant.0,
      eight_beside l.b a.c a.table.now l.vectors done.new.dst (omega (arith, c.requires.2)) done.ensures.block_turned done.ensures.beside_block a.vectors.now l.invariant.1,
    )

pub returns : goal.returns
returns c =
    let l = c.loop-b in
    let all : c.args.tau ≤ l.b * 8 = omega (arith, c.div_ceil-b-end.ensures, (div_ceil_times c.args.tau 8 (omega arith)).0) in
    record { sixteen_turned = (λ e j he hj. l.invariant.0 e j (omega (arith, all, he)) hj); beside_sixteen = l.invariant.1 }
