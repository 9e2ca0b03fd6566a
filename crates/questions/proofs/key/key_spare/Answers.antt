-- `questions::key::key_spare` meets its contract. The rows of A, those of b, and y.
-- Assumes nothing.
use mathlib.Core.Path.{ap, ◌∙◌}
use Prim.Native.Nat.{◌*◌}
use native.Mathlib.Omega.{arith}
use Rattle.protocol.specs.Strings.{spare_zero}
use Rattle.protocol.specs.Key.{rows_spare, key_spare}
use Rattle.format.specs.Sizes.{setting_for, alphabet_for, shape_for}
use Rattle.format.proofs.SizeLaws.{in-limits, matrix_rows_most}
use Rattle.format.proofs.AllLaws.{all_three}
use Rattle.rows.proofs.SpareLaws.{rows_are}
use Rattle.questions.proofs.key.key_spare.Goals as goal

pub overflow_mul-m : goal.overflow_mul-m
overflow_mul-m c = omega (arith, matrix_rows_most (shape_for c.args.s) c.requires.sizes)

pub rows_spare-requires : goal.rows_spare-requires
rows_spare-requires c =
    (c.section_a.ensures.1, omega (arith, in-limits (shape_for c.args.s) c.requires.sizes))

pub rows_spare-requires-2 : goal.rows_spare-requires-2
rows_spare-requires-2 c =
    (c.section_b.ensures.1, omega (arith, in-limits (shape_for c.args.s) c.requires.sizes))

pub row_spare-requires : goal.row_spare-requires
row_spare-requires c =
    (c.section_y.ensures.1, omega (arith, in-limits (shape_for c.args.s) c.requires.sizes))

pub returns : goal.returns
unfolding key_spare
returns c =
    let z = c.args.s in
    let S = shape_for z in
    all_three (rows_are (setting_for z) _ _ _ c.rows_spare.ensures ∙ ap (rows_spare (alphabet_for z) S.n (S.m * S.n)) c.section_a.ensures.0)
    (rows_are (setting_for z) _ _ _ c.rows_spare-2.ensures ∙ ap (rows_spare (alphabet_for z) S.n S.m) c.section_b.ensures.0)
    (c.row_spare.ensures ∙ ap (λ y. spare_zero y S.m) c.section_y.ensures.0)
