-- When the check program's input is unread, and what is answered where it is read.
-- Assumes nothing.
use mathlib.Core.Path.{◌≡◌, refl, ap}
use mathlib.Core.Bool.{Bool, true, false, ◌&&◌}
use mathlib.Core.List.{List}
use Prim.Native.Nat.{ℕ, ◌≤◌, ◌<◌}
use lib.Dec.{leb}
use lib.ListN.{length}
use Rattle.std.proofs.Common.{Some, None}
use Rattle.std.specs.Bool.{then_some}
use Rattle.protocol.specs.Frames.{framed}
use Rattle.protocol.specs.Calls.{verify_answer}
use Rattle.protocol.specs.Check.{eight, answered, unread, lengths_in, readable, check_of}
use Rattle.theorems.proofs.TestLaws.{leb_yes, leb_no, both_true}
use Rattle.sections.proofs.SectionLaws.{and_no}
use Rattle.checking.specs.Checked.{lengths_read, verify_parts}

not-readable : (s : List ℕ) → readable 6 65536 s ≡ false → unread ≡ check_of eight s
unfolding check_of
not-readable s h = rw (check_of, h)

pub too_long : (s : List ℕ) → 65536 < length s → unread ≡ check_of eight s
unfolding readable
too_long s h = not-readable s (ap (λ b. b && framed (lengths_in 6 s) s) (leb_no (length s) 65536 h))

pub not-framed : (s : List ℕ) → framed (lengths_in 6 s) s ≡ false → unread ≡ check_of eight s
unfolding readable
not-framed s h = not-readable s (and_no (leb (length s) 65536) (framed (lengths_in 6 s) s) h)

pub read_whole : (s : List ℕ) → length s ≤ 65536 → framed (lengths_in 6 s) s ≡ true → answered (verify_parts (lengths_in 6 s) s) ≡ check_of eight s
unfolding check_of readable
read_whole s l h =
    let r : readable 6 65536 s ≡ true = both_true (leb (length s) 65536) (framed (lengths_in 6 s) s) (leb_yes (length s) 65536 l) h in
    rw (check_of, r)

-- the same six strings get the same answer
pub same_answer : {a b c d e f a' b' c' d' e' f' : List ℕ} → a ≡ a' → b ≡ b' → c ≡ c' → d ≡ d' → e ≡ e' → f ≡ f'
    → verify_answer eight a b c d e f ≡ verify_answer eight a' b' c' d' e' f'
same_answer p q r s t u = λ i. verify_answer eight (p i) (q i) (r i) (s i) (t i) (u i)

-- what it says of the input that its lengths are read, or are not

pub none_read : (s : List ℕ) → lengths_read s ≡ None → framed (lengths_in 6 s) s ≡ false
none_read s = go (framed (lengths_in 6 s) s)
  where
    go : (b : Bool) → then_some b (lengths_in 6 s) ≡ None → b ≡ false
    go true h = absurd (cc)
    go false h = refl

pub some_read : (s ls : List ℕ) → lengths_read s ≡ Some ls → (framed (lengths_in 6 s) s ≡ true) × (ls ≡ lengths_in 6 s)
some_read s ls = go (framed (lengths_in 6 s) s)
  where
    go : (b : Bool) → then_some b (lengths_in 6 s) ≡ Some ls → (b ≡ true) × (ls ≡ lengths_in 6 s)
    go true h = (refl, cc)
    go false h = absurd (cc)
