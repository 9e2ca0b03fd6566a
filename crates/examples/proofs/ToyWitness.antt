-- With y = 0 the toy's witness fails equation 0, and the four calls that take a witness refuse it: computed.
-- Assumes nothing.
use mathlib.Core.Path.{◌≡◌, refl}
use lib.Dec.{lit<}
use Rattle.protocol.specs.Answers.{refused}
use Rattle.protocol.specs.Questions.{fails}
use Rattle.protocol.specs.Calls.{test_answer, commit_answer, batch_answer, prove_answer}
use Rattle.protocol.specs.Shape.{shape_of}
use Rattle.protocol.specs.Check.{eight}
use Rattle.examples.specs.Toy.{A, key₀, leaves, x, H', χ, out}
use Rattle.examples.proofs.ToyComputing.{computing}
use Rattle.examples.proofs.ToyLeaves.{one_not_zero}

pub equation_0_fails : fails A (shape_of key₀) key₀ x 0
unfolding computing
equation_0_fails = (lit< tt, one_not_zero)

pub test-refused : test_answer eight key₀ x ≡ refused 11 0
unfolding computing
test-refused = refl

pub commit-refused : commit_answer eight key₀ leaves x (out 9) ≡ refused 11 0
unfolding computing
commit-refused = refl

pub batch-refused : batch_answer eight key₀ leaves x χ (out 10) ≡ refused 11 0
unfolding computing
batch-refused = refl

pub prove-refused : prove_answer eight key₀ leaves x H' χ (out 29) ≡ refused 11 0
unfolding computing
prove-refused = refl
