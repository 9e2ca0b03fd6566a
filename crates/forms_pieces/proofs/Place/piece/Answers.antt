-- `forms_pieces::Place::piece` meets its contract.
-- Assumes nothing.
use Rattle.std.proofs.Common.{◌≡◌, ◌-◌, refl, ap, ◌∙◌, arith}
use Rattle.forms_pieces.specs.Pieces.{end_of, rows_of}
use Rattle.forms_pieces.proofs.PieceLaws.{end_is}
use Rattle.forms_pieces.proofs.Place.piece.Goals as goal

pub overflow_sub-end : goal.overflow_sub-end
overflow_sub-end c = omega (arith, c.requires, c.min.ensures, c.div_ceil.ensures)

pub returns : goal.returns
returns c =
    let a = c.args in
    let least = c.min.ensures in
    let panels = c.div_ceil.ensures in
    let end : c.min.result ≡ end_of a.n a.self.first = end_is a.n a.self.first c.min.result (omega (arith, least, panels)) (omega (arith, least, panels)) (λ h. omega (arith, least, panels, h)) in
    (refl, refl, ap (λ e. e - a.self.top) end, c.rows_of-count.ensures ∙ ap (λ e. rows_of (a.self.first - a.self.top) (e - a.self.top)) end)
