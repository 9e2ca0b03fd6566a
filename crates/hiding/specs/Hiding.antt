-- Request 8, "the proof keeps the witness", over any alphabet. It is proved of each that is lawful and has OneMask.
--   ExactlyOne P == there is an x with P x, and any two are equal
--   Solution key x == x has the right form and solves the system
--   Challenge key Δ == Δ is τ elements of the field
--   Honest key leaves x Δ == "leaves lent in full and all else honest", as far as it matters: sizes in range, full
--     leaves of exact length with spare bits 0, a solution, a challenge. Of the rest of the key, of H' and of χ nothing
--     is asked
--   Keeps key leaves x Δ H' χ x' hidden == with x' and these hidden leaves the view is that of x and its own leaves
--   Gives key x w leaves == with x these full leaves give the view w
--   KeepsOver A == all that is shown over the alphabet A;  Common == it is shown of each that is lawful and has OneMask
-- `HiddenLeaves` speaks of the hidden leaves, `FullLeaves` of full leaves without saying how they are put together.
-- Each holds at every Δ, 0 included.
-- Assumes nothing.
use Rattle.std.specs.Prelude.{◌≡◌, true, List, ℕ}
use Rattle.protocol.specs.Strings.{bytes}
use Rattle.protocol.specs.Alphabet.{Alphabet, elements_in, Lawful}
use Rattle.protocol.specs.Shape.{shape_of, limits, per_tree}
use Rattle.protocol.specs.Questions.{ΔExact, leaves_exact, leaves_spare, witness_form, solves}
use Rattle.hiding.specs.View.{View, view_of}
use Rattle.hiding.specs.Hidden.{HiddenForm, hidden_of, with_hidden, IsReplacement}
use Rattle.hiding.specs.Masks.{OneMask}

abbrev pub ExactlyOne : {X : Type 0} → (X → Type 0) → Type 0
ExactlyOne {X} P = ((x : X) × P x) × ((x y : X) → P x → P y → x ≡ y)

module _ (A : Alphabet) where
  pub record Solution (key x : List ℕ) : Type 0 where
    pub form : witness_form A (shape_of key) x ≡ true
    pub solved : solves A (shape_of key) key x ≡ true

  pub record Challenge (key Δ : List ℕ) : Type 0 where
    pub exact : ΔExact A (shape_of key) Δ ≡ true
    pub elements : elements_in A Δ ≡ true

  pub record Honest (key leaves x Δ : List ℕ) : Type 0 where
    pub sizes : limits (shape_of key) ≡ true
    pub exact : leaves_exact A (shape_of key) (per_tree A) leaves ≡ true
    pub spare : leaves_spare A (shape_of key) (per_tree A) leaves ≡ true
    pub solution : Solution key x
    pub challenge : Challenge key Δ

  abbrev pub Keeps : List ℕ → List ℕ → List ℕ → List ℕ → List ℕ → List ℕ → List ℕ → List ℕ → Type 0
  Keeps key leaves x Δ H' χ x' hidden = HiddenForm A (shape_of key) hidden × (view_of A key (with_hidden A (shape_of key) leaves Δ hidden) x' Δ H' χ ≡ view_of A key leaves x Δ H' χ)

  -- "For each witness that solves the system, exactly one choice of hidden leaves with spare bits 0 yields that same
  -- view."
  abbrev pub HiddenLeaves : Type 0
  HiddenLeaves = (key leaves x Δ H' χ x' : List ℕ) → Honest key leaves x Δ → Solution key x' → ExactlyOne (Keeps key leaves x Δ H' χ x')

  -- For the witness that was used, the one choice is the leaves that were hidden.
  abbrev pub OwnHidden : Type 0
  OwnHidden = (key leaves x Δ H' χ : List ℕ) → Honest key leaves x Δ → bytes leaves → Keeps key leaves x Δ H' χ x (hidden_of A (shape_of key) leaves Δ)

  abbrev pub Gives : List ℕ → List ℕ → View → List ℕ → Type 0
  Gives key x w leaves = Honest key leaves x w.Δ × bytes leaves × (view_of A key leaves x w.Δ w.H' w.χ ≡ w)

  -- The same of full leaves: exactly one set of them gives that same view with x'.
  abbrev pub FullLeaves : Type 0
  FullLeaves = (key leaves x Δ H' χ x' : List ℕ) → Honest key leaves x Δ → bytes leaves → Solution key x' → ExactlyOne (Gives key x' (view_of A key leaves x Δ H' χ))

  -- "a published proof favours no solution": whatever is seen, if full leaves give it with one solution, exactly one
  -- set of them gives it with each. So how many do is the same for every solution, one or none.
  abbrev pub FavoursNone : Type 0
  FavoursNone = (key x x' leaves : List ℕ) (w : View) → Gives key x w leaves → Solution key x' → ExactlyOne (Gives key x' w)

  -- The same as a map: full leaves go over to full leaves, the view with x to the same view with x', and back. Which
  -- leaves are honest does not go by the solution, so this is a permutation of them. With leaves drawn uniformly, the
  -- view's distribution is then the same whichever solution was used.
  pub record OneToOne (key Δ H' χ x x' : List ℕ) : Type 0 where
    pub over : (l : List ℕ) → Honest key l x Δ → bytes l → List ℕ
    pub over-honest : (l : List ℕ) (h : Honest key l x Δ) (b : bytes l) → Honest key (over l h b) x' Δ × bytes (over l h b)
    pub over_view : (l : List ℕ) (h : Honest key l x Δ) (b : bytes l) → view_of A key (over l h b) x' Δ H' χ ≡ view_of A key l x Δ H' χ
    pub back : (l : List ℕ) → Honest key l x' Δ → bytes l → List ℕ
    pub back-honest : (l : List ℕ) (h : Honest key l x' Δ) (b : bytes l) → Honest key (back l h b) x Δ × bytes (back l h b)
    pub back-over : (l : List ℕ) (h : Honest key l x Δ) (b : bytes l) → back (over l h b) (over-honest l h b).0 (over-honest l h b).1 ≡ l
    pub over-back : (l : List ℕ) (h : Honest key l x' Δ) (b : bytes l) → over (back l h b) (back-honest l h b).0 (back-honest l h b).1 ≡ l

  abbrev pub Corresponding : Type 0
  Corresponding = (key Δ H' χ x x' : List ℕ) → Solution key x → Solution key x' → OneToOne key Δ H' χ x x'

  pub record KeepsOver : Type 0 where
    pub replacement : (key : List ℕ) → IsReplacement A (shape_of key)
    pub hidden-leaves : HiddenLeaves
    pub own-hidden : OwnHidden
    pub full-leaves : FullLeaves
    pub favours_none : FavoursNone
    pub corresponding : Corresponding

abbrev pub Common : Type 1
Common = (A : Alphabet) → Lawful A → OneMask A → KeepsOver A
