-- `questions::key::key_form` meets its contract: the degree, and then the key.
-- Assumes nothing.
use Rattle.format.proofs.AskLaws.{same_first, passed, left}
use Rattle.questions.proofs.key.key_form.Goals as goal

pub returns-in_err-ask : goal.returns-in_err-ask
returns-in_err-ask c =
    let q = c.from_residual in
    left _ _ q.result (same_first 16 0 _ c.degree_served.ensures c.ask.ensures) c.in_err-ask.was q.ensures.1

pub returns : goal.returns
returns c = passed _ _ (same_first 16 0 _ c.degree_served.ensures c.ask.ensures) c.in_ok-ask.was c.header_form.ensures
