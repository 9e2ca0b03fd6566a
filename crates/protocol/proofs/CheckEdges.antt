-- Which inputs the check program reads: from the definition. Its numbers: computed.
-- Assumes nothing.
use mathlib.Core.Path.{◌≡◌, refl}
use mathlib.Core.Bool.{Bool, true, false, ◌&&◌}
use mathlib.Core.List.{List}
use Prim.Native.Nat.{ℕ}
use borrow.Author.Tests.{le-leb, lt-leb}
use lib.Dec.{leb}
use lib.ListN.{length}
use Rattle.protocol.specs.Calls.{verify_answer}
use Rattle.protocol.specs.Check.{eight, answered, unread, readable, check_of, decimal, decimal_digits}
use Rattle.protocol.specs.CheckEdges.{section, CheckReads, Decimals}

and-false : (b : Bool) → (b && false) ≡ false
and-false true = refl
and-false false = refl

unread_is : (input : List ℕ) → readable 6 65536 input ≡ false → check_of eight input ≡ unread
unfolding check_of
unread_is input h = rw (check_of, h)

read_is : (input : List ℕ) → readable 6 65536 input ≡ true
    → check_of eight input ≡ answered (verify_answer eight (section 0 input) (section 1 input) (section 2 input) (section 3 input) (section 4 input) (section 5 input))
unfolding check_of
read_is input h = rw (check_of, h)

pub check_reads : CheckReads
unfolding readable
check_reads = record {
  too_long = λ input h. unread_is input (rw (lt-leb (length input) 65536 h));
  not-whole = λ input h. unread_is input (rw h (and-false (leb (length input) 65536)));
  whole = λ input l h. read_is input (rw (le-leb (length input) 65536 l, h));
}

pub decimals_are : Decimals
unfolding decimal decimal_digits
decimals_are = record { one_digit = refl; two_digits = refl; three-digits = refl }
