-- `questions_proof::proof::proof_spare` meets its contract. The rows of C, then d, then ũ.
-- Assumes nothing.
use mathlib.Core.Path.{sym, ap, ◌∙◌}
use Prim.Native.Nat.{◌*◌, ◌-◌}
use native.Mathlib.Omega.{arith}
use Rattle.protocol.specs.Strings.{bytes_for, spare_zero}
use Rattle.protocol.specs.Key.{rows_spare}
use Rattle.protocol.specs.Shape.{l_of, w_of}
use Rattle.protocol.specs.Sections.{lengths}
use Rattle.protocol.specs.Questions.{proof_spare}
use Rattle.format.specs.Sizes.{setting_for, alphabet_for, shape_for}
use Rattle.rows.proofs.SpareLaws.{rows_are}
use Rattle.format.proofs.SizeLaws.{in-limits, l_most}
use Rattle.format.proofs.AllLaws.{all_three}
use Rattle.questions_proof.proofs.proof.proof_spare.Goals as goal

pub overflow_sub-s : goal.overflow_sub-s
overflow_sub-s c = omega (arith, in-limits (shape_for c.args.s) c.requires.0)

pub rows_spare-requires : goal.rows_spare-requires
unfolding lengths w_of
rows_spare-requires c =
    let S = shape_for c.args.s in
    (c.requires.1.c_is.1 ∙ ap (λ k. (S.τ - 1) * bytes_for k) (sym c.leaf_bits.ensures), omega (arith, l_most (setting_for c.args.s) S c.requires.0))

pub row_spare-requires : goal.row_spare-requires
unfolding lengths
row_spare-requires c = (c.requires.1.d_is.1, omega (arith, in-limits (shape_for c.args.s) c.requires.0))

pub row_spare-requires-2 : goal.row_spare-requires-2
unfolding lengths
row_spare-requires-2 c = (c.requires.1.u_is.1, omega (arith, in-limits (shape_for c.args.s) c.requires.0))

pub returns : goal.returns
unfolding proof_spare
returns c =
    let S = shape_for c.args.s in
    let A = alphabet_for c.args.s in
    let p = c.requires.1 in
    all_three
    (rows_are (setting_for c.args.s) _ _ _ c.rows_spare.ensures ∙ ap (λ k. rows_spare A k (S.τ - 1) c.args.proof.c.now) c.leaf_bits.ensures ∙ ap (rows_spare A (l_of A S) (S.τ - 1)) p.c_is.0)
    (c.row_spare.ensures ∙ ap (λ d. spare_zero d S.n) p.d_is.0)
    (c.row_spare-2.ensures ∙ ap (λ u. spare_zero u S.t) p.u_is.0)
