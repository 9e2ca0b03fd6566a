-- `questions::key::key_section` meets its contract. The sections after the header, whose length question 3 gives.
-- Assumes nothing.
use mathlib.Core.Path.{ap, ap₂, ◌∙◌}
use Prim.Native.Nat.{ℕ, ◌<◌}
use native.Mathlib.Omega.{arith}
use lib.ListN.{length, get_or}
use Rattle.protocol.specs.Frames.{section_no}
use Rattle.protocol.specs.Alphabet.{Alphabet}
use Rattle.protocol.specs.Shape.{Shape}
use Rattle.protocol.specs.Key.{key_lengths}
use Rattle.format.specs.Sizes.{alphabet_for, shape_for}
use Rattle.questions.proofs.KeyLaws.{rest-is, sections-length}
use Rattle.questions.proofs.key.key_section.Goals as goal

count : (A : Alphabet) (s : Shape) (i : ℕ) → i < 3 → i < length (key_lengths A s)
unfolding key_lengths
count A s i h = h

pub section_no-requires : goal.section_no-requires
section_no-requires c =
    let s = shape_for c.args.s in
    rw (c.key_lengths-lengths.ensures, rest-is c.args.key.now 8) (omega (arith, sections-length (alphabet_for c.args.s) s c.args.key.now c.requires.0), count (alphabet_for c.args.s) s c.args.i c.requires.1)

pub returns : goal.returns
returns c =
    let a = c.args in
    let e = c.key_lengths-lengths.ensures in (
      c.section_no.ensures.0 ∙ ap₂ (λ ls s. section_no ls a.i s) e (rest-is a.key.now 8),
      c.section_no.ensures.1 ∙ ap (λ ls. get_or ls a.i 0) e,
    )
