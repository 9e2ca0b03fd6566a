-- `strings::word_at` meets its contract: the library's sum of the bytes, each times its worth, is the word.
-- Assumes nothing.
use Rattle.std.proofs.Common.{◌≡◌, arith, ap}
use Prim.Native.Nat.{◌+◌}
use Rattle.strings.specs.Sums.{byte_at}
use Rattle.strings.specs.Words.{word_of}
use Rattle.strings.proofs.word_at.Goals as goal

pub returns : goal.returns
unfolding word_of
returns c =
    let at = c.args.at in
    let e : at + 0 ≡ at = omega arith in
    let first = ap (byte_at c.args.s.now) e in
    omega (arith, c.from_le_bytes.ensures, first)
