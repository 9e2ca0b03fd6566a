-- `forms_choices::fives::fill_words` meets its contract. The invariant: the rows of the repetitions below e are filled.
-- Assumes nothing.
use Prim.Native.Nat.{◌+◌, ◌*◌}
use mathlib.Core.Path.{refl}
use native.Mathlib.Omega.{arith}
use Rattle.strings.specs.Sums.{byte_at}
use Rattle.strings.proofs.Rows.{row-end}
use Rattle.forms_choices.proofs.ChoiceLaws.{chosen-next}
use Rattle.forms_choices.proofs.fives.fill_words.Goals as goal

pub loop-e-init : goal.loop-e-init
loop-e-init c = λ q h. absurd (omega arith)

pub overflow_mul-e : goal.overflow_mul-e
overflow_mul-e c =
    let l = c.loop-e in
    omega (arith, c.requires.1, c.requires.3, row-end l.e c.args.tau c.args.stride (omega arith))

pub overflow_add-e : goal.overflow_add-e
overflow_add-e c =
    let l = c.loop-e in
    omega (arith, c.requires.1, c.requires.3, row-end l.e c.args.tau c.args.stride (omega arith))

pub fill_repetition-requires : goal.fill_repetition-requires
fill_repetition-requires c =
    let a = c.args in
    let l = c.loop-e in
    (c.requires.0, omega arith, omega (arith, c.requires.1, c.requires.3, row-end l.e a.tau a.stride (omega arith)))

pub loop-e-preserved : goal.loop-e-preserved
loop-e-preserved c =
    let a = c.args in
    let l = c.loop-e in
    let done = c.fill_repetition in
    chosen-next (λ r i. byte_at a.chi.now (r * a.stride + a.from + i)) l.words done.new.words a.m l.e (λ p hp. done.ensures.by_index (λ r i. byte_at a.chi.now (r * a.stride + a.from + i)) p hp (λ i h. refl)) done.ensures.by_index_2 l.invariant

pub returns : goal.returns
returns c =
    let l = c.loop-e in
    λ r h. l.invariant r (omega arith)
