-- `strings::parity::shared_bytes` meets its contract: the chain's sum is the count (`ParityLaws`).
-- Assumes nothing.
use Rattle.std.proofs.Common.{ℕ, rules, tests, ◌∙◌}
use Rattle.std.proofs.lemmas.Iterator.{YieldsList-from_slice, YieldsList-from_zip, YieldsList-from_map}
use Rattle.std.proofs.lemmas.Iterator.Consumers.{YieldsList-at, sum_by_from_yields_List}
use Rattle.std.specs.List.{zip}
use Rattle.std.specs.Int.Bits.{bit_and}
use Rattle.std.specs.Int.Count.{ones}
use Rattle.strings.proofs.ParityLaws.{shared-zip}
use Rattle.strings.proofs.parity.shared_bytes.Goals as goal

pub returns : goal.returns
returns c =
    let row = c.args.row.now in
    let x = c.args.x.now in
    let f : ℕ × ℕ → ℕ = λ p. ones (bit_and p.0 p.1) in
    sum_by_from_yields_List f (zip row x) c.map.result c.sum.result c.sum.ensures.ran
    (YieldsList-from_map _ f (YieldsList-at c.map.ensures.source (YieldsList-from_zip (YieldsList-at c.zip.ensures.first (YieldsList-from_slice row cc)) (YieldsList-from_slice x cc))) c.map.ensures.closure (λ x r q k. search (rules, tests)))
    ∙ shared-zip row x c.requires.0
