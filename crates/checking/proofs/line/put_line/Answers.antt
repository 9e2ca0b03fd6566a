-- `checking::line::put_line` meets its contract: the parts, one after the other.
-- Assumes nothing.
use mathlib.Core.Path.{◌≡◌, sym, ap, ◌∙◌}
use mathlib.Core.List.{[], ◌∷◌, ◌++◌}
use Prim.Native.Nat.{◌+◌, ◌≤◌}
use native.Mathlib.Omega.{arith}
use lib.ListN.{length, drop}
use lib.Seq.{sets}
use Rattle.protocol.specs.Check.{decimal}
use Rattle.checking.proofs.LineLaws.{line-length, line_stored}
use Rattle.checking.specs.Checked.{line_text}
use borrow.Author.Rules.{rules}
use Rattle.checking.proofs.line.put_line.Goals as goal

pub returns : goal.returns
returns c =
    let a = c.args in
    let word = c.put-after_word in
    let number = c.put_number-after_number in
    let place = c.put_number-after_place in
    let end = c.put in
    let first : word.result ≡ length a.word.now = omega (arith, word.ensures.value) in
    let stored = end.ensures.put ∙ ap (λ l. sets l place.result (10 ∷ [])) (place.ensures.put ∙ ap (λ l. sets l number.result (32 ∷ decimal a.place)) (number.ensures.put ∙ ap (λ l. sets l word.result (32 ∷ decimal a.number)) word.ensures.put)) in
    let room : place.result + 1 ≤ length a.out.now = omega (arith, c.requires, word.ensures.value, number.ensures.value.1, place.ensures.value.1) in
    let line = line_stored a.out.now a.word.now a.number a.place word.result number.result place.result first number.ensures.value.0 place.ensures.value.0 room in record {
      value = (end.ensures.value ∙ line-length a.out.now a.word.now a.number a.place word.result number.result place.result first number.ensures.value.0 place.ensures.value.0, search rules);
      put = stored ∙ line ∙ ap (λ k. line_text a.word.now a.number a.place ++ drop k a.out.now) (sym end.ensures.value);
    }
