-- The test of bytes that must be elements of the field, at each degree.
-- Assumes nothing.
use mathlib.Core.Path.{◌≡◌, refl, sym, ap, ◌∙◌}
use mathlib.Core.Bool.{Bool, true, false, not, ◌||◌, true≢false}
use mathlib.Core.List.{List}
use Prim.Native.Nat.{ℕ}
use lib.Dec.{eqb, ltb}
use lib.ListN.{length, get_or}
use Rattle.galois.specs.Gf16.{gf16}
use Rattle.galois.specs.Degrees.{size_of}
use Rattle.galois.proofs.DegreeLaws.{size-four, size-other}
use Rattle.protocol.specs.Lists.{all_below}
use Rattle.protocol.specs.Strings.{bytes}
use Rattle.protocol.specs.Alphabet.{elements_in}
use Rattle.protocol.specs.Setting.{setting, alphabet_of}
use Rattle.theorems.proofs.TestLaws.{eqb_eq, eqb_same}
use Rattle.theorems.proofs.ElementLaws.{elements-bytes}
use Rattle.rows.specs.Spare.{narrow}

narrow-elements : (d : ℕ) (s : List ℕ) → d ≡ gf16.degree → narrow s ≡ elements_in (alphabet_of (setting d)) s
unfolding narrow elements_in size_of
narrow-elements d s h = ap (λ n. all_below (length s) (λ i. ltb (get_or s i 0) n)) (size-four d h)

every_element : (d : ℕ) (s : List ℕ) → (d ≡ gf16.degree → ⊥) → bytes s → true ≡ elements_in (alphabet_of (setting d)) s
unfolding size_of
every_element d s h b = sym (elements-bytes (alphabet_of (setting d)) (sym (size-other d h)) s b)

pub tested-elements : (d : ℕ) (s : List ℕ) (found : ℕ) → bytes s → eqb found 0 ≡ narrow s → (not (eqb d gf16.degree) || eqb found 0) ≡ elements_in (alphabet_of (setting d)) s
tested-elements d s found b h = go (eqb d gf16.degree) refl
  where
    go : (t : Bool) → eqb d gf16.degree ≡ t → (not t || eqb found 0) ≡ elements_in (alphabet_of (setting d)) s
    go true e = h ∙ narrow-elements d s (eqb_eq d gf16.degree e)
    go false e = every_element d s (λ p. absurd (true≢false (sym (eqb_same d gf16.degree p) ∙ e))) b
