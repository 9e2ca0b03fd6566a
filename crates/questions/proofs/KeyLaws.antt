-- What questions 1 to 3 give of a key: its sections stand where the sizes say.
-- Assumes nothing.
use mathlib.Core.Path.{◌≡◌, sym, subst}
use mathlib.Core.List.{List}
use Prim.Native.Nat.{ℕ, ◌-◌, ◌≤◌}
use native.Mathlib.Omega.{arith}
use lib.ListN.{length, take, drop, length-drop}
use lib.Seq.{take_all}
use Rattle.protocol.specs.Frames.{framed_length}
use Rattle.protocol.specs.Alphabet.{Alphabet}
use Rattle.protocol.specs.Setting.{Setting, alphabet_of}
use Rattle.protocol.specs.Shape.{Shape, shape_of}
use Rattle.protocol.specs.Key.{key_lengths, key_exact}
use Rattle.protocol.specs.Answers.{accepted, ask}
use Rattle.protocol.specs.Calls.{key_questions}
use Rattle.theorems.proofs.TestLaws.{leb_le}
use Rattle.theorems.proofs.AnswerLaws.{ask-accepts, all_yes_lem}
use Rattle.questions.specs.Asking.{SizedKey, KeyForm}
use Rattle.questions.specs.Facts.{KeyFacts}
use Rattle.format.specs.Sizes.{setting_for, alphabet_for, shape_for, SizesOf}
use Rattle.format.specs.declared.sizes.Sizes.{Sizes}
use Rattle.sections.proofs.SectionLaws.{framed-length}

-- a part that goes up to the end
pub rest-is : (key : List ℕ) (at : ℕ) → take (length key - at) (drop at key) ≡ drop at key
rest-is key at = take_all (length key - at) (drop at key) (omega (arith, length-drop at key))

pub sections-length : (A : Alphabet) (s : Shape) (key : List ℕ) → SizedKey A s key → length (drop 8 key) ≡ framed_length (key_lengths A s)
unfolding key_exact
sections-length A s key f = framed-length (key_lengths A s) (drop 8 key) f.exact

pub facts-sized : (A : Alphabet) (s : Shape) (key : List ℕ) → KeyFacts A s key → SizedKey A s key
facts-sized A s key f = record { header = f.header; sizes = f.in-range; exact = f.key-exact }

-- sizes that are those in the header
pub sized-key : (A : Alphabet) (s : Shape) (key : List ℕ) → s ≡ shape_of key → KeyForm A key → SizedKey A s key
sized-key A s key e f = subst (λ (z : Shape). SizedKey A z key) (sym e) f

-- from the acceptance of the questions on the key
pub key-facts : (g : Setting) (key : List ℕ) → ask (key_questions g key) ≡ accepted → KeyFacts (alphabet_of g) (shape_of key) key
key-facts g key h =
    let y = all_yes_lem (key_questions g key) ((ask-accepts (key_questions g key)).0 h) in
    record { header = leb_le 8 (length key) y.1.0; in-range = y.1.1.0; key-exact = y.1.1.1.0; key-spare = y.1.1.1.1.0 }

-- what holds by the sizes in the header holds by those that were read from it
pub by-sizes : (P : Shape → Type 0) (s : Sizes) (key : List ℕ) → SizesOf key s → 8 ≤ length key → P (shape_of key) → P (shape_for s)
by-sizes P s key of h f = subst P (sym (of h)) f

pub key-sized : (s : Sizes) (key : List ℕ) → SizesOf key s → ask (key_questions (setting_for s) key) ≡ accepted → KeyFacts (alphabet_for s) (shape_for s) key
key-sized s key of h = by-sizes (λ z. KeyFacts (alphabet_for s) z key) s key of (key-facts (setting_for s) key h).header (key-facts (setting_for s) key h)
