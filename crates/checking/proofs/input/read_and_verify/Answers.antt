-- `checking::input::read_and_verify` meets its contract.
-- Assumes nothing.
use mathlib.Core.Path.{sym, ap, ◌∙◌}
use native.Mathlib.Omega.{arith}
use Rattle.protocol.specs.Check.{answered}
use Rattle.sections.proofs.SectionLaws.{framed-length}
use Rattle.checking.specs.Checked.{verify_parts}
use Rattle.checking.proofs.OutcomeLaws.{too_long, not-framed, read_whole, none_read, some_read}
use Rattle.checking.proofs.input.read_and_verify.Goals as goal

pub returns-then-input-gt-MOST_INPUT : goal.returns-then-input-gt-MOST_INPUT
returns-then-input-gt-MOST_INPUT c = too_long _ c.if-input-gt-MOST_INPUT.true

pub returns-in_err-lengths : goal.returns-in_err-lengths
returns-in_err-lengths c = rw c.from_residual.ensures (not-framed _ (none_read _ (sym c.read_lengths.ensures ∙ c.in_err-lengths.was)))

pub verify_sections-requires : goal.verify_sections-requires
verify_sections-requires c =
    let read = some_read c.args.input.now _ (sym c.read_lengths.ensures ∙ c.in_ok-lengths.was) in
    rw read.1 (omega (arith, framed-length _ c.args.input.now read.0))

pub returns : goal.returns
returns c =
    let s = c.args.input.now in
    let read = some_read s _ (sym c.read_lengths.ensures ∙ c.in_ok-lengths.was) in
    ap answered (c.verify_sections.ensures ∙ ap (λ ls. verify_parts ls s) read.1) ∙ read_whole s c.if-input-gt-MOST_INPUT.false read.0
