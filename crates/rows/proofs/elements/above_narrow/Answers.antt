-- `rows::elements::above_narrow` meets its contract: the fold, from any start (`SpareLaws`).
-- Assumes nothing.
use Rattle.std.proofs.Common.{◌≡◌, ◌/◌, bit_or, rules}
use Rattle.std.specs.List.{fold}
use Rattle.rows.proofs.SpareLaws.{narrow-fold}
use Rattle.rows.proofs.elements.above_narrow.Goals as goal

pub returns : goal.returns
returns c =
    let e : c.fold.result ≡ fold (λ found x. bit_or found (x / 16)) 0 c.args.s.now = search rules in
    rw e (narrow-fold c.args.s.now)
