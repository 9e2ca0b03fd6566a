-- `questions::witness::solved` meets its contract: the errors of the largest key fit, and so this one's.
-- Assumes nothing.
use mathlib.Core.Path.{sym}
use Prim.Native.Nat.{◌≤◌}
use Rattle.protocol.specs.Shape.{most_equations}
use Rattle.format.specs.Sizes.{shape_for}
use Rattle.format.proofs.SizeLaws.{in-limits}
use Rattle.sections.proofs.Writes.{prefix_length}
use Rattle.questions_proof.proofs.witness.solved.Goals as goal

pub slice_bounds-errors-end : goal.slice_bounds-errors-end
slice_bounds-errors-end c = (let fits' : c.args.s.m ≤ most_equations = (in-limits (shape_for c.args.s) c.requires.1.of-key.in-range).m_most in fits')

pub slice_bounds-test_equations-end : goal.slice_bounds-test_equations-end
slice_bounds-test_equations-end c = sym (prefix_length c.args.s.m most_equations ((let fits' : c.args.s.m ≤ most_equations = (in-limits (shape_for c.args.s) c.requires.1.of-key.in-range).m_most in fits')))

pub test_equations-requires : goal.test_equations-requires
test_equations-requires c = (c.requires.0, c.requires.1, prefix_length c.args.s.m most_equations ((let fits' : c.args.s.m ≤ most_equations = (in-limits (shape_for c.args.s) c.requires.1.of-key.in-range).m_most in fits')))
