-- `checking::line::put_number` meets its contract: the library's digits are those of the definition.
-- Assumes nothing.
use mathlib.Core.Path.{◌≡◌, ap, ap₂, ◌∙◌}
use Prim.Native.Nat.{◌+◌}
use native.Mathlib.Numerals.{add-one}
use native.Mathlib.Omega.{arith}
use lib.ListN.{length}
use lib.Seq.{sets}
use Rattle.protocol.specs.Check.{decimal}
use Rattle.checking.proofs.LineLaws.{decimal_is, five-digits}
use Rattle.checking.proofs.line.put_number.Goals as goal

pub put-next-requires : goal.put-next-requires
put-next-requires c = omega arith

digits : (c : goal.After-as_bytes) → c.as_bytes.result.now ≡ decimal c.args.x
digits c = c.as_bytes.ensures.value ∙ c.format.ensures.text ∙ decimal_is c.args.x (omega arith)

pub put-requires : goal.put-requires
put-requires c = rw (digits c) (omega (arith, five-digits c.args.x c.requires.1, c.put-next.ensures.value))

pub returns : goal.returns
returns c =
    let a = c.args in
    let text : c.as_bytes.result.now ≡ decimal a.x = c.as_bytes.ensures.value ∙ c.format.ensures.text ∙ decimal_is a.x (omega arith) in
    let five = five-digits a.x c.requires.1 in
    let end : c.put.result ≡ c.put-next.result + length (decimal a.x) = rw (← text) c.put.ensures.value in record {
      value = (omega (arith, c.put-next.ensures.value, end), omega (arith, c.put-next.ensures.value, end, five));
      put = c.put.ensures.put
          ∙ ap (sets c.put-next.new.out c.put-next.result) text
          ∙ ap₂ (λ l k. sets l k (decimal a.x)) c.put-next.ensures.put (c.put-next.ensures.value ∙ add-one a.at);
    }
