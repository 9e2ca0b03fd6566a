-- What coordinates are: symbols, how a string of them is written in bytes, and which elements of the field K they stand
-- for.
--   symbols == how many there are;  embed x == the element that symbol x stands for
--   symbol_of a == the symbol that stands for a
--   width L == the bytes of a string of L symbols;  at s c == coordinate c of s
--   pack L f == the string with the coordinates f
--   spare_zero s L == what s holds past its L coordinates is 0;  masks == mask coordinates of a repetition
--   sym A s c == coordinate c of s as an element;  elem_at A s i == byte i of s as an element
--   elements_in A s == each byte of s writes an element of the field: it is below the field's size
-- Equations are written with sym and elem_at only. `Lawful` is what the theorems use of an alphabet;
-- for bits it is proved, and for the four symbols of request 11.
-- Assumes nothing.
use Rattle.std.specs.Prelude.{◌≡◌, Bool, true, List, ℕ, ◌≤◌, ◌<◌, ltb, length, get_or}
use Rattle.algebra.specs.Coded.{Coded}
use Rattle.protocol.specs.Lists.{all_below}
use Rattle.protocol.specs.Strings.{bytes}

pub record Alphabet : Type 1 where
  pub K : Coded
  pub symbols : ℕ
  pub embed : ℕ → K.base.R.F
  pub symbol_of : K.base.R.F → ℕ
  pub width : ℕ → ℕ
  pub at : List ℕ → ℕ → ℕ
  pub pack : ℕ → (ℕ → ℕ) → List ℕ
  pub spare_zero : List ℕ → ℕ → Bool
  pub masks : ℕ

module _ (A : Alphabet) where
  open A use {K, symbols, embed, symbol_of, width, at, pack, spare_zero, masks}
  open K use {base, elem}
  open base use {R, size}
  open R use {F, 𝟘, 𝟙, add as ◌⊕◌, mul as ◌⊗◌}

  infixl 65 ◌⊕◌
  infixl 70 ◌⊗◌
  unfoldable pub sym : List ℕ → ℕ → F
  sym s c = embed (at s c)

  unfoldable pub elem_at : List ℕ → ℕ → F
  elem_at s i = elem (get_or s i 0)

  unfoldable pub elements_in : List ℕ → Bool
  elements_in s = all_below (length s) (λ i. ltb (get_or s i 0) size)

  -- an element that a symbol stands for
  abbrev pub IsSymbol : F → Type 0
  IsSymbol a = (x : ℕ) × (x < symbols) × (a ≡ embed x)

  pub record Lawful : Type 0 where
    pub at_lt : (s : List ℕ) (c : ℕ) → at s c < symbols
    pub symbol_lt : (a : F) → symbol_of a < symbols
    pub symbol_back : (a : F) → IsSymbol a → embed (symbol_of a) ≡ a
    pub zero_symbol : IsSymbol 𝟘
    pub one_symbol : IsSymbol 𝟙
    pub add_symbol : (a b : F) → IsSymbol a → IsSymbol b → IsSymbol (a ⊕ b)
    pub mul_symbol : (a b : F) → IsSymbol a → IsSymbol b → IsSymbol (a ⊗ b)
    pub width_le : (L : ℕ) → width L ≤ L
    pub pack-length : (L : ℕ) (f : ℕ → ℕ) → length (pack L f) ≡ width L
    pub pack-at : (L : ℕ) (f : ℕ → ℕ) → ((c : ℕ) → f c < symbols) → (c : ℕ) → c < L → at (pack L f) c ≡ f c
    pub pack-spare : (L : ℕ) (f : ℕ → ℕ) → ((c : ℕ) → f c < symbols) → spare_zero (pack L f) L ≡ true
    pub masks_le : masks ≤ 8
    -- a string of exact length whose spare bits are 0 is its coordinates, and a symbol its element
    pub symbol-of : (x : ℕ) → x < symbols → symbol_of (embed x) ≡ x
    pub pack_congr : (L : ℕ) (f g : ℕ → ℕ) → ((c : ℕ) → c < L → f c ≡ g c) → pack L f ≡ pack L g
    pub pack-bytes : (L : ℕ) (f : ℕ → ℕ) → ((c : ℕ) → f c < symbols) → bytes (pack L f)
    pub string_is : (L : ℕ) (s : List ℕ) → length s ≡ width L → bytes s → spare_zero s L ≡ true → pack L (at s) ≡ s
