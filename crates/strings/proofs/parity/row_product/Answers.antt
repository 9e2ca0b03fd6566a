-- `strings::parity::row_product` meets its contract: the parity of the ones that the rows share is their product, and
-- is that of the sum of words (`ParityLaws`).
-- Assumes nothing.
use Prim.Native.Nat.{◌+◌, ◌*◌, ◌/◌, ◌-◌, ◌%◌}
use mathlib.Core.Path.{◌≡◌, sym, ap, ◌∙◌}
use native.Mathlib.Omega.{arith}
use lib.ListN.{length}
use lib.Bits.{bit_xor}
use lib.Count.{ones}
use Rattle.strings.specs.Shared.{shared}
use Rattle.strings.proofs.ParityLaws.{parity-add, ones_xor, row-product}
use borrow.Author.Rules.{rules}
use Rattle.strings.proofs.parity.row_product.Goals as goal

pub returns-then-row-lt-WORD : goal.returns-then-row-lt-WORD
returns-then-row-lt-WORD c =
    let a = c.args in (
      ap (λ n. n % 2) c.shared_bytes.ensures ∙ row-product a.row.now a.x.now (λ i l. (c.type_inv.row i).fits) (omega arith),
      search rules,
    )

pub returns : goal.returns
returns c =
    let a = c.args in
    let row = a.row.now in
    let x = a.x.now in
    let first = c.shared_words.result in
    let rest = c.last_word.result in
    let from = (length row - 1) / 8 * 8 in
    let all : shared from row x + ones rest ≡ shared (length row) row x = omega (arith, c.last_word.ensures) in (
      ones_xor first rest
          ∙ ap (λ z. bit_xor z (ones rest % 2)) c.shared_words.ensures
          ∙ sym (parity-add (shared from row x) (ones rest))
          ∙ ap (λ n. n % 2) all
          ∙ row-product row x (λ i l. (c.type_inv.row i).fits) (omega arith),
      search rules,
    )
