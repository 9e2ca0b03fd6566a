-- Request 8 of full leaves: exactly one set gives the view with another solution; and what follows from that.
-- Assumes nothing.
use mathlib.Core.Path.{◌≡◌, refl, sym, ap, ◌∙◌, subst}
use mathlib.Core.List.{List}
use Prim.Native.Nat.{ℕ}
use Rattle.protocol.specs.Strings.{bytes}
use Rattle.protocol.specs.Alphabet.{Alphabet, Lawful}
use Rattle.protocol.specs.Shape.{Shape, shape_of}
use Rattle.hiding.specs.Masks.{OneMask}
use Rattle.hiding.specs.View.{View, view_of}
use Rattle.hiding.specs.Hidden.{HiddenForm, hidden_of, with_hidden}
use Rattle.hiding.specs.Hiding.{ExactlyOne, Solution, Honest, Keeps, OwnHidden, Gives, FullLeaves, FavoursNone, Corresponding, Common}
use Rattle.hiding.proofs.FormLaws.{is_replacement, with_exact, with_spare, with_bytes, own-form, given_back}
use Rattle.hiding.proofs.Choice.{in_tree, hidden-leaves}

module _ (A : Alphabet) (laws : Lawful A) where
  -- the hidden leaves of honest full leaves have the right form
  own-hidden-form : (key leaves x Δ : List ℕ) → Honest A key leaves x Δ → bytes leaves → HiddenForm A (shape_of key) (hidden_of A (shape_of key) leaves Δ)
  own-hidden-form key leaves x Δ h b = own-form A (shape_of key) leaves Δ h.exact (in_tree A laws key leaves x Δ h) h.spare b

  pub own-hidden : OwnHidden A
  own-hidden key leaves x Δ H' χ h b =
      let form = own-hidden-form key leaves x Δ h b in
      (form, ap (λ z. view_of A key z x Δ H' χ) (given_back A (shape_of key) leaves Δ h.exact (in_tree A laws key leaves x Δ h) leaves h.exact form.0 refl))

  -- with hidden leaves of the right form full leaves stay honest, for any solution
  pub with_honest : (key leaves x Δ hidden x' : List ℕ) → Honest A key leaves x Δ → HiddenForm A (shape_of key) hidden → Solution A key x' → Honest A key (with_hidden A (shape_of key) leaves Δ hidden) x' Δ
  with_honest key leaves x Δ hidden x' h f sol = record {
    sizes = h.sizes;
    exact = with_exact A (shape_of key) leaves Δ hidden h.exact f.0;
    spare = with_spare A (shape_of key) leaves Δ hidden h.exact f.0 h.spare;
    solution = sol;
    challenge = h.challenge;
  }

  module _ (one : OneMask A) (key leaves x Δ H' χ x' : List ℕ) (h : Honest A key leaves x Δ) (b : bytes leaves) (sol : Solution A key x') where
    abbrev s : Shape
    s = shape_of key

    abbrev Full : List ℕ → Type 0
    Full = Gives A key x' (view_of A key leaves x Δ H' χ)

    some : (l : List ℕ) × Full l
    some =
        let choice = (hidden-leaves A laws one key leaves x Δ H' χ x' h sol).0 in
        (with_hidden A s leaves Δ choice.0, (with_honest key leaves x Δ choice.0 x' h choice.1.0 sol, with_bytes A s leaves Δ choice.0 b choice.1.0.1, choice.1.1))

    -- full leaves with that view are the given ones with their own hidden leaves
    module _ (l : List ℕ) (f : Full l) where
      form : HiddenForm A s (hidden_of A s l Δ)
      form = own-hidden-form key l x' Δ f.0 f.1

      put_in : with_hidden A s leaves Δ (hidden_of A s l Δ) ≡ l
      put_in = given_back A s l Δ f.0.exact (in_tree A laws key l x' Δ f.0) leaves h.exact form.0 (ap (λ (z : View). z.opened) (sym f.2))

      keeps : Keeps A key leaves x Δ H' χ x' (hidden_of A s l Δ)
      keeps = (form, ap (λ z. view_of A key z x' Δ H' χ) put_in ∙ f.2)

    same_full : (a c : List ℕ) → Full a → Full c → a ≡ c
    same_full a c fa fc =
        sym (put_in a fa)
        ∙ ap (with_hidden A s leaves Δ) ((hidden-leaves A laws one key leaves x Δ H' χ x' h sol).1 (hidden_of A s a Δ) (hidden_of A s c Δ) (keeps a fa) (keeps c fc))
        ∙ put_in c fc

  pub full-leaves : OneMask A → FullLeaves A
  full-leaves one key leaves x Δ H' χ x' h b sol = (some one key leaves x Δ H' χ x' h b sol, same_full one key leaves x Δ H' χ x' h b sol)

  pub favours_none : OneMask A → FavoursNone A
  favours_none one key x x' leaves w g sol =
      subst (λ (z : View). ExactlyOne (Gives A key x' z)) g.2 (full-leaves one key leaves x w.Δ w.H' w.χ x' g.0 g.1 sol)

  -- ---- the correspondence

  module _ (one : OneMask A) (key Δ H' χ : List ℕ) where
    over : (x y : List ℕ) → Solution A key y → (l : List ℕ) → Honest A key l x Δ → bytes l → List ℕ
    over x y sol l h b = (full-leaves one key l x Δ H' χ y h b sol).0.0

    over-gives : (x y : List ℕ) (sol : Solution A key y) (l : List ℕ) (h : Honest A key l x Δ) (b : bytes l) → Gives A key y (view_of A key l x Δ H' χ) (over x y sol l h b)
    unfolding over
    over-gives x y sol l h b = (full-leaves one key l x Δ H' χ y h b sol).0.1

    -- there and back
    back-over : (x y : List ℕ) (sx : Solution A key x) (sy : Solution A key y) (l : List ℕ) (h : Honest A key l x Δ) (b : bytes l)
        → over y x sx (over x y sy l h b) (over-gives x y sy l h b).0 (over-gives x y sy l h b).1 ≡ l
    back-over x y sx sy l h b =
        let g = over-gives x y sy l h b in
        let m : List ℕ = over x y sy l h b in
        (full-leaves one key m y Δ H' χ x g.0 g.1 sx).1 (over y x sx m g.0 g.1) l (over-gives y x sx m g.0 g.1) (h, b, sym g.2)

  pub corresponding : OneMask A → Corresponding A
  corresponding one key Δ H' χ x y sx sy = record {
    over = over one key Δ H' χ x y sy;
    over-honest = λ l h b. let g = over-gives one key Δ H' χ x y sy l h b in (g.0, g.1);
    over_view = λ l h b. (over-gives one key Δ H' χ x y sy l h b).2;
    back = over one key Δ H' χ y x sx;
    back-honest = λ l h b. let g = over-gives one key Δ H' χ y x sx l h b in (g.0, g.1);
    back-over = back-over one key Δ H' χ x y sx sy;
    over-back = back-over one key Δ H' χ y x sy sx;
  }

pub keeps-over : Common
keeps-over A laws one = record {
  replacement = λ key. is_replacement A (shape_of key);
  hidden-leaves = hidden-leaves A laws one;
  own-hidden = own-hidden A laws;
  full-leaves = full-leaves A laws one;
  favours_none = favours_none A laws one;
  corresponding = corresponding A laws one;
}
