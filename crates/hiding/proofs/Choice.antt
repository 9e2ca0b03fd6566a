-- Exactly one choice of hidden leaves yields the same view with another solution.
-- Assumes nothing.
use mathlib.Core.Path.{◌≡◌, sym, ap, ◌∙◌}
use mathlib.Core.Bool.{true}
use mathlib.Core.List.{List, [], ◌∷◌}
use Prim.Native.Nat.{ℕ, ◌*◌, ◌<◌}
use lib.Dec.{leb}
use lib.ListN.{length, get_or}
use Rattle.algebra.specs.Roots.{is_zero}
use Rattle.algebra.proofs.RingLaws.{ring, add_self_left}
use Rattle.algebra.proofs.Solver.{combine₁}
use Rattle.algebra.proofs.CountLaws.{and_left}
use Rattle.protocol.specs.Lists.{block_at, concat, table}
use Rattle.protocol.specs.Strings.{bytes}
use Rattle.protocol.specs.Alphabet.{Alphabet, sym as symbol, Lawful}
use Rattle.protocol.specs.Shape.{Shape, shape_of, within, most_variables, least_equations, most_equations, most_repetitions, most_hash_rows, limits, per_tree, l_of, w_of}
use Rattle.protocol.specs.Sections.{bytes_of, sections_in}
use Rattle.protocol.specs.Leaves.{leaf_at}
use Rattle.protocol.specs.Forms.{error}
use Rattle.protocol.specs.Prover.{u, v, sections_of, proof_of}
use Rattle.protocol.specs.Questions.{solves}
use Rattle.protocol.specs.Counting.{opening}
use Rattle.theorems.proofs.TestLaws.{all-at, all_true_lem, leb_le}
use Rattle.theorems.proofs.StringLaws.{bytes-block}
use Rattle.theorems.proofs.ElementLaws.{element_lt}
use Rattle.theorems.proofs.CountingLaws.{leaves-length}
use Rattle.theorems.proofs.SymbolLaws.{sym_symbol, pack-sym, spare-pack}
use Rattle.theorems.proofs.HonestLaws.{sections-back}
use Rattle.hiding.specs.Masks.{Symbols, OneMask}
use Rattle.hiding.specs.View.{View, view_of}
use Rattle.hiding.specs.Hidden.{HiddenForm, with_hidden}
use Rattle.hiding.specs.Hiding.{Honest, Solution, Keeps, HiddenLeaves}
use Rattle.hiding.proofs.BlockLaws.{blocks_ext}
use Rattle.hiding.proofs.ShiftLaws.{fits_one, shift_of, shift_symbol, shift_fits}
use Rattle.hiding.proofs.HiddenLaws.{change, hidden-length, with_opened, with_u, with_v}
use Rattle.hiding.proofs.KeepLaws.{first, mask, Fit, kept, alike, must_fit}
use Rattle.hiding.proofs.FormLaws.{string_ext, form-length, form-spare, together-block, together}

pub some_repetition : (s : Shape) → limits s ≡ true → 0 < s.τ
unfolding limits within
some_repetition s h =
    let t = all_true_lem (within 1 most_variables s.n ∷ within least_equations most_equations s.m ∷ within 1 most_repetitions s.τ ∷ within 1 most_hash_rows s.t ∷ []) h in
    leb_le 1 s.τ (and_left (leb 1 s.τ) (leb s.τ most_repetitions) t.1.1.0)

module _ (A : Alphabet) (laws : Lawful A) where
  open A use {K, symbol_of, pack, spare_zero}
  open K use {base, elem}
  open base use {R}
  open R use {F, 𝟘, 𝟙, add as ◌⊕◌, mul as ◌⊗◌}

  infixl 65 ◌⊕◌
  infixl 70 ◌⊗◌
  pub in_tree : (key leaves x Δ : List ℕ) → Honest A key leaves x Δ → (e : ℕ) → e < (shape_of key).τ → get_or Δ e 0 < per_tree A
  unfolding per_tree
  in_tree key leaves x Δ h e l = element_lt A Δ h.challenge.elements e

  module _ (one : OneMask A) (key leaves x Δ H' χ x' : List ℕ) (honest : Honest A key leaves x Δ) (sol : Solution A key x') where
    abbrev s : Shape
    s = shape_of key

    abbrev q : ℕ
    q = per_tree A

    abbrev w : ℕ
    w = w_of A s

    abbrev L : ℕ
    L = l_of A s

    pos : 0 < s.τ
    pos = some_repetition s honest.sizes

    k7 : length leaves ≡ s.τ * q * w
    k7 = leaves-length A s leaves honest.exact

    small : (e : ℕ) → e < s.τ → get_or Δ e 0 < q
    small = in_tree key leaves x Δ honest

    solved-at : (y : List ℕ) → Solution A key y → (i : ℕ) → i < s.m → error A s key i (symbol A y) ≡ 𝟘
    unfolding solves
    solved-at y h i l = base.eqb_sound _ _ (all-at s.m (λ i. is_zero base (error A s key i (symbol A y))) h.solved i l)

    abbrev with' : List ℕ → List ℕ
    with' hidden = with_hidden A s leaves Δ hidden

    -- a view is the opened leaves and the sections
    same_view : (l l' y y' : List ℕ) → opening A s l Δ ≡ opening A s l' Δ → sections_of A s l key y H' χ ≡ sections_of A s l' key y' H' χ → view_of A key l y Δ H' χ ≡ view_of A key l' y' Δ H' χ
    unfolding proof_of
    same_view l l' y y' o p = λ i. record { opened = o i; Δ = Δ; H' = H'; χ = χ; proof = bytes_of (p i) }

    view_sections : (l l' y y' : List ℕ) → view_of A key l y Δ H' χ ≡ view_of A key l' y' Δ H' χ → sections_of A s l key y H' χ ≡ sections_of A s l' key y' H' χ
    unfolding proof_of
    view_sections l l' y y' h = sym (sections-back A laws s l key y H' χ) ∙ ap (λ (z : View). sections_in A s z.proof) h ∙ sections-back A laws s l' key y' H' χ

    -- ---- there is a choice

    shift : ℕ → F
    shift = shift_of A laws one s H' (first A laws one s key leaves x Δ H' χ x') (mask A laws one s key leaves x Δ H' χ x')

    shifts_symbol : Symbols A shift
    unfolding shift first
    shifts_symbol = shift_symbol A laws one s H' (first A laws one s key leaves x Δ H' χ x') (mask A laws one s key leaves x Δ H' χ x') (λ c. laws.add_symbol _ _ (sym_symbol A laws x c) (sym_symbol A laws x' c))

    abbrev old : ℕ → ℕ → F
    old e c = symbol A (leaf_at q w leaves e (get_or Δ e 0)) c

    leaf : ℕ → List ℕ
    leaf e = pack L (λ c. symbol_of (old e c ⊕ shift c))

    leaf-length : (e : ℕ) → e < s.τ → length (leaf e) ≡ w
    unfolding leaf w_of
    leaf-length e l = laws.pack-length L _

    leaf-bytes : (e : ℕ) → bytes (leaf e)
    unfolding leaf
    leaf-bytes e = laws.pack-bytes L _ (λ c. laws.symbol_lt _)

    leaf-spare : (e : ℕ) → e < s.τ → spare_zero (leaf e) L ≡ true
    unfolding leaf
    leaf-spare e l = spare-pack A laws L (λ c. old e c ⊕ shift c)

    pub chosen : List ℕ
    chosen = concat (table s.τ leaf)

    pub chosen-form : HiddenForm A s chosen
    unfolding chosen
    chosen-form = together A s leaf leaf-length leaf-bytes leaf-spare

    chosen-length : length chosen ≡ s.τ * w
    chosen-length = form-length A s chosen chosen-form.0

    chosen-change : (e c : ℕ) → e < s.τ → c < L → change A s leaves Δ chosen e c ≡ shift c
    unfolding change chosen leaf
    chosen-change e c le l =
        ap (λ z. old e c ⊕ symbol A z c) (together-block A s leaf leaf-length e le)
        ∙ ap (λ z. old e c ⊕ z) (pack-sym A laws L (λ c. old e c ⊕ shift c) (λ c. laws.add_symbol _ _ (sym_symbol A laws _ c) (shifts_symbol c)) c l)
        ∙ add_self_left R (old e c) (shift c)

    chosen-sections : sections_of A s leaves key x H' χ ≡ sections_of A s (with' chosen) key x' H' χ
    unfolding shift
    chosen-sections =
        kept A laws one s key leaves x Δ H' χ x' (solved-at x honest.solution) (solved-at x' sol) (with' chosen) shift
        (λ e c le l. with_u A s leaves Δ chosen k7 chosen-length e le (small e le) c ∙ ap (λ z. u A s leaves e c ⊕ z) (chosen-change e c le l))
        (λ e c le l. with_v A s leaves Δ chosen k7 chosen-length e le (small e le) c ∙ ap (λ z. v A s leaves e c ⊕ elem (get_or Δ e 0) ⊗ z) (chosen-change e c le l))
        (shift_fits A laws one s H' (first A laws one s key leaves x Δ H' χ x') (mask A laws one s key leaves x Δ H' χ x')) pos

    pub chosen_view : view_of A key (with' chosen) x' Δ H' χ ≡ view_of A key leaves x Δ H' χ
    chosen_view = same_view (with' chosen) leaves x' x (with_opened A s leaves Δ chosen k7 chosen-length) (sym chosen-sections)

    -- ---- any two are equal

    module _ (z : List ℕ) (kz : Keeps A key leaves x Δ H' χ x' z) where
      hidden_is : length z ≡ s.τ * w
      hidden_is = form-length A s z kz.0.0

      u_is : (e c : ℕ) → e < s.τ → u A s (with' z) e c ≡ u A s leaves e c ⊕ change A s leaves Δ z e c
      u_is e c le = with_u A s leaves Δ z k7 hidden_is e le (small e le) c

      v_is : (e c : ℕ) → e < s.τ → v A s (with' z) e c ≡ v A s leaves e c ⊕ elem (get_or Δ e 0) ⊗ change A s leaves Δ z e c
      v_is e c le = with_v A s leaves Δ z k7 hidden_is e le (small e le) c

      change_symbol : Symbols A (change A s leaves Δ z 0)
      unfolding change
      change_symbol c = laws.add_symbol _ _ (sym_symbol A laws _ c) (sym_symbol A laws _ c)

      all_alike : (e c : ℕ) → e < s.τ → c < L → change A s leaves Δ z e c ≡ change A s leaves Δ z 0 c
      all_alike = alike A laws one s key leaves x Δ H' χ x' (with' z) (change A s leaves Δ z) u_is v_is (view_sections leaves (with' z) x x' (sym kz.1)) pos

      pub fit : Fit A laws one s key leaves x Δ H' χ x' (change A s leaves Δ z 0)
      fit = must_fit A laws one s key leaves x Δ H' χ x' (with' z) (change A s leaves Δ z) u_is v_is (view_sections leaves (with' z) x x' (sym kz.1)) pos

    module _ (a b : List ℕ) (ka : Keeps A key leaves x Δ H' χ x' a) (kb : Keeps A key leaves x Δ H' χ x' b) where
      same-change : (e c : ℕ) → e < s.τ → c < L → change A s leaves Δ a e c ≡ change A s leaves Δ b e c
      same-change e c le l =
          all_alike a ka e c le l
          ∙ fits_one A laws one s H' (first A laws one s key leaves x Δ H' χ x') (mask A laws one s key leaves x Δ H' χ x') (change A s leaves Δ a 0) (change A s leaves Δ b 0)
          (change_symbol a ka) (change_symbol b kb) (fit a ka) (fit b kb) c l
          ∙ sym (all_alike b kb e c le l)

      same_symbol : (e c : ℕ) → e < s.τ → c < L → symbol A (block_at a w e) c ≡ symbol A (block_at b w e) c
      unfolding change
      same_symbol e c le l = cancel _ _ _ (same-change e c le l)
        where
          cancel : (y p r : F) → y ⊕ p ≡ y ⊕ r → p ≡ r
          cancel y p r h = combine₁ R 𝟙 h (simp ring)

      same-leaf : (e : ℕ) → e < s.τ → block_at a w e ≡ block_at b w e
      unfolding w_of
      same-leaf e le =
          string_ext A laws L (block_at a w e) (block_at b w e) (hidden-length A s leaves Δ a k7 (hidden_is a ka) e le) (hidden-length A s leaves Δ b k7 (hidden_is b kb) e le)
          (bytes-block a w e ka.0.1) (bytes-block b w e kb.0.1) (form-spare A s a ka.0.0 e le) (form-spare A s b kb.0.0 e le) (λ c l. same_symbol e c le l)

      pub same-hidden : a ≡ b
      same-hidden = blocks_ext w s.τ a b (hidden_is a ka) (hidden_is b kb) same-leaf

  pub hidden-leaves : OneMask A → HiddenLeaves A
  hidden-leaves one key leaves x Δ H' χ x' honest sol = (
    (chosen one key leaves x Δ H' χ x' honest sol, (chosen-form one key leaves x Δ H' χ x' honest sol, chosen_view one key leaves x Δ H' χ x' honest sol)),
    same-hidden one key leaves x Δ H' χ x' honest sol,
  )
