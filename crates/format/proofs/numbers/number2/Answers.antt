-- `format::numbers::number2` meets its contract. The bytes are added as the definition adds them.
-- Assumes nothing.
use Rattle.std.proofs.Common.{◌≡◌, ◌+◌, arith, ap, ◌∙◌}
use Rattle.std.proofs.lemmas.Grind.{common_steps}
use Rattle.std.specs.Int.{w16, from_le_bytes}
use lib.ListN.{take, drop}
use Rattle.protocol.specs.Frames.{num2}
use Rattle.strings.proofs.WordLaws.{part-byte}
use Rattle.format.proofs.numbers.number2.Goals as goal

pub returns : goal.returns
unfolding num2
returns c =
    let s = c.args.s.now in
    let at = c.args.at in
    let e : c.unwrap.result.now ≡ take 2 (drop at s) = grind (arith, common_steps, c.unwrap.ensures, c.first_chunk.ensures.cases) in
    let b = part-byte s at 2 in
    let z : at + 0 ≡ at = omega arith in
    let is : c.from_le_bytes.result ≡ num2 s at = c.from_le_bytes.ensures ∙ ap (from_le_bytes w16) e ∙ omega (arith, rw z at (b 0 (omega arith)), b 1 (omega arith)) in
    (c.from.ensures ∙ is, omega arith)
