-- `questions::key::header_form` meets its contract. Its questions are those by the sizes in the header.
-- Assumes nothing.
use mathlib.Core.List.{List, [], ◌∷◌}
use mathlib.Core.Path.{◌≡◌, sym, ap, ◌∙◌}
use Prim.Native.Nat.{ℕ}
use lib.ListN.{drop}
use Rattle.protocol.specs.Frames.{framed}
use Rattle.protocol.specs.Alphabet.{Alphabet}
use Rattle.protocol.specs.Shape.{Shape, shape_of, limits}
use Rattle.protocol.specs.Key.{key_lengths, key_exact, key_spare}
use Rattle.protocol.specs.Answers.{Answer, question, ask}
use Rattle.theorems.proofs.TestLaws.{leb_le}
use Rattle.format.specs.Sizes.{alphabet_for}
use Rattle.format.proofs.AskLaws.{said_yes, same_first, passed, left}
use Rattle.questions.proofs.KeyLaws.{sized-key}
use Rattle.questions.proofs.key.header_form.Goals as goal

exact : (A : Alphabet) (S : Shape) (key lengths : List ℕ) {a : Answer} → S ≡ shape_of key → lengths ≡ key_lengths A S
    → a ≡ ask (question (framed lengths (drop 8 key)) 3 0 ∷ []) → a ≡ ask (question (key_exact A (shape_of key) key) 3 0 ∷ [])
unfolding key_exact
exact A S key lengths of are asked = same_first 3 0 _ (ap (λ ls. framed ls (drop 8 key)) (are ∙ ap (key_lengths A) of)) asked

pub returns-in_err-ask : goal.returns-in_err-ask
returns-in_err-ask c = left _ _ c.from_residual.result c.ask.ensures c.in_err-ask.was c.from_residual.ensures.1

pub returns-in_err-ask-2 : goal.returns-in_err-ask-2
returns-in_err-ask-2 c =
    let q = c.from_residual-in_err-ask-2 in
    let of = c.requires (leb_le 8 _ (said_yes _ 1 0 (sym c.in_ok-ask.ensures))) in
    passed _ _ c.ask.ensures c.in_ok-ask.was (left _ _ q.result (same_first 2 0 _ (c.in_limits.ensures ∙ ap limits of) c.ask-2.ensures) c.in_err-ask-2.was q.ensures.1)

pub key_lengths-lengths-requires : goal.key_lengths-lengths-requires
key_lengths-lengths-requires c = sym c.in_limits.ensures ∙ said_yes _ 2 0 (sym c.in_ok-ask-2.ensures)

pub sections_form-requires : goal.sections_form-requires
sections_form-requires c = leb_le 8 _ (said_yes _ 1 0 (sym c.in_ok-ask.ensures))

pub returns-in_err-sections_form : goal.returns-in_err-sections_form
returns-in_err-sections_form c =
    let key = c.args.key.now in
    let q = c.from_residual-in_err-sections_form in
    let of = c.requires (leb_le 8 _ (said_yes _ 1 0 (sym c.in_ok-ask.ensures))) in
    passed _ _ c.ask.ensures c.in_ok-ask.was
    (passed _ _ (same_first 2 0 _ (c.in_limits.ensures ∙ ap limits of) c.ask-2.ensures) c.in_ok-ask-2.was
    (left _ _ q.result (exact _ _ key _ of c.key_lengths-lengths.ensures c.sections_form.ensures) c.in_err-sections_form.was q.ensures.1))

pub key_spare-requires : goal.key_spare-requires
key_spare-requires c =
    let key = c.args.key.now in
    let header = leb_le 8 _ (said_yes _ 1 0 (sym c.in_ok-ask.ensures)) in
    let of = c.requires header in
    sized-key (alphabet_for c.args.s) _ key of record {
      header = header;
      sizes = sym (c.in_limits.ensures ∙ ap limits of) ∙ said_yes _ 2 0 (sym c.in_ok-ask-2.ensures);
      exact = said_yes _ 3 0 (sym (exact _ _ key _ of c.key_lengths-lengths.ensures c.in_ok-sections_form.ensures));
    }

pub returns : goal.returns
returns c =
    let key = c.args.key.now in
    let of = c.requires (leb_le 8 _ (said_yes _ 1 0 (sym c.in_ok-ask.ensures))) in
    passed _ _ c.ask.ensures c.in_ok-ask.was
    (passed _ _ (same_first 2 0 _ (c.in_limits.ensures ∙ ap limits of) c.ask-2.ensures) c.in_ok-ask-2.was
    (passed _ _ (exact _ _ key _ of c.key_lengths-lengths.ensures c.sections_form.ensures) c.in_ok-sections_form.was
    (same_first 4 0 _ (c.key_spare.ensures ∙ ap (λ S. key_spare (alphabet_for c.args.s) S key) of) c.ask-3.ensures)))
