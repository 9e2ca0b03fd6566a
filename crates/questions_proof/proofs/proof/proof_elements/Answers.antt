-- `questions_proof::proof::proof_elements` meets its contract: Ṽ, then QS0, then QS1.
-- Assumes nothing.
use mathlib.Core.Path.{ap, ◌∙◌}
use Rattle.protocol.specs.Alphabet.{elements_in}
use Rattle.protocol.specs.Questions.{proof_elements}
use Rattle.format.specs.Sizes.{alphabet_for}
use Rattle.format.proofs.AllLaws.{all_three}
use Rattle.questions_proof.proofs.proof.proof_elements.Goals as goal

pub returns : goal.returns
unfolding proof_elements
returns c =
    let A = alphabet_for c.args.s in
    let p = c.requires in
    all_three (c.elements.ensures ∙ ap (elements_in A) p.v_is.0) (c.elements-2.ensures ∙ ap (elements_in A) p.qs0_is.0) (c.elements-3.ensures ∙ ap (elements_in A) p.qs1_is.0)
