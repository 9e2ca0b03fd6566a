-- `questions::witness::test_equations` meets its contract: the errors of the equations, and their answer.
-- Assumes nothing.
use mathlib.Core.Path.{◌≡◌, sym, ap, ◌∙◌, subst}
use mathlib.Core.Bool.{true}
use Prim.Native.Nat.{ℕ, ◌*◌}
use native.Mathlib.Nat.{mul_assoc}
use native.Mathlib.Omega.{arith}
use Rattle.protocol.specs.Strings.{bytes_for, spare_zero}
use Rattle.protocol.specs.Shape.{Shape, shape_of}
use Rattle.protocol.specs.Questions.{solves}
use Rattle.protocol.specs.Key.{section_a, section_b, section_y}
use Rattle.format.proofs.SizeLaws.{in-limits}
use Rattle.equations.specs.Equations.{key_error}
use Rattle.equations.proofs.BlockLaws.{bytes-enough}
use Rattle.questions_proof.proofs.SolvedLaws.{place_fits, first_fails}
use Rattle.format.specs.Sizes.{setting_for, alphabet_for, shape_for}
use Rattle.questions.proofs.KeyLaws.{facts-sized}
use Rattle.questions_proof.proofs.witness.test_equations.Goals as goal

pub section_a-requires : goal.section_a-requires
section_a-requires c = facts-sized (alphabet_for c.args.s) (shape_for c.args.s) c.args.key.now c.requires.1.of-key

pub section_b-requires : goal.section_b-requires
section_b-requires c = facts-sized (alphabet_for c.args.s) (shape_for c.args.s) c.args.key.now c.requires.1.of-key

pub section_y-requires : goal.section_y-requires
section_y-requires c = facts-sized (alphabet_for c.args.s) (shape_for c.args.s) c.args.key.now c.requires.1.of-key

pub equation_errors-requires : goal.equation_errors-requires
equation_errors-requires c =
    let s = c.args.s in
    let f = c.requires.1 in (
      omega (arith, (in-limits (shape_for s) f.of-key.in-range).n_most),
      f.of_witness.witness-length,
      c.section_a.ensures.1 ∙ mul_assoc s.m s.n (bytes_for s.n) ∙ ap (λ (k : ℕ). k * (s.n * bytes_for s.n)) (sym c.requires.2),
      c.section_b.ensures.1 ∙ ap (λ (k : ℕ). k * bytes_for s.n) (sym c.requires.2),
      omega (arith, c.requires.2, c.section_y.ensures.1, bytes-enough s.m),
    )

pub answer-requires : goal.answer-requires
answer-requires c =
    place_fits _ c.first_failing.result (omega (arith, c.equation_errors.auto.errors, c.requires.2, (in-limits (shape_for c.args.s) c.requires.1.of-key.in-range).m_most)) c.first_failing.ensures

pub returns : goal.returns
unfolding solves
returns c =
    let key = c.args.key.now in
    let x = c.args.witness.now in
    let e = c.requires.0 c.requires.1.of-key.header in
    let p = c.equation_errors in
    let same : (i : ℕ) → key_error c.args.s.n c.section_a.result.now c.section_b.result.now c.section_y.result.now x i
    ≡ key_error (shape_of key).n (section_a (alphabet_for c.args.s) (shape_of key) key) (section_b (alphabet_for c.args.s) (shape_of key) key) (section_y (alphabet_for c.args.s) (shape_of key) key) x i =
    λ i. rw (c.section_a.ensures.0, c.section_b.ensures.0, c.section_y.ensures.0) (ap (λ (z : Shape). key_error z.n (section_a (alphabet_for c.args.s) z key) (section_b (alphabet_for c.args.s) z key) (section_y (alphabet_for c.args.s) z key) x i) e) in
    let fails = first_fails (setting_for c.args.s) key x (subst (λ (z : Shape). spare_zero x z.n ≡ true) e c.requires.1.of_witness.witness-spare) p.new.errors (p.auto.errors ∙ c.requires.2 ∙ ap (λ (z : Shape). z.m) e) (λ i h. p.ensures i (rw p.auto.errors at h) ∙ same i) c.first_failing.result c.first_failing.ensures in
    c.answer.ensures _ _ fails
