-- `forms_pieces::load` meets its contract.
-- Assumes nothing.
use borrow.Author.Rules.{rules}
use Rattle.forms_pieces.proofs.load.Goals as goal

pub load_piece-requires : goal.load_piece-requires
load_piece-requires c = c.requires.piece_of

pub returns-then-p-eq0 : goal.returns-then-p-eq0
returns-then-p-eq0 c = c.load_piece.ensures

pub returns-else-p-eq0 : goal.returns-else-p-eq0
returns-else-p-eq0 c = c.requires.folded_set (λ e. search rules)
