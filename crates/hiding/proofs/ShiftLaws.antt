-- The shifts of u that a view allows: fixed on the witness's coordinates, with a given mask in each repetition, and
-- with hash 0. There is exactly one.
--   Fits first mask g == g is such a shift;  shift_of first mask == the one
-- Assumes nothing.
use mathlib.Core.Path.{◌≡◌, sym, ap, ap₂, ◌∙◌}
use mathlib.Core.Bool.{Bool, true, false, cond}
use mathlib.Core.List.{List}
use Prim.Native.Nat.{ℕ, ◌+◌, ◌*◌, ◌-◌, ◌/◌, ◌%◌, ◌<◌, ◌≤◌}
use native.Mathlib.Decide.{dec_lt}
use native.Mathlib.Omega.{arith}
use lib.Arith.{digits_div, digits_mod}
use lib.Dec.{ltb}
use Rattle.algebra.specs.Sum.{sum, power}
use Rattle.algebra.proofs.SumLaws.{sum_congr}
use Rattle.algebra.proofs.FieldLaws.{add-cancel}
use Rattle.protocol.specs.Lists.{block_at}
use Rattle.protocol.specs.Alphabet.{Alphabet, sym as symbol, IsSymbol, Lawful}
use Rattle.protocol.specs.Shape.{Shape, mask_at, k_of, l_of}
use Rattle.protocol.specs.Forms.{α, hash, mask_of}
use Rattle.hiding.specs.Masks.{Symbols, OneMask}
use Rattle.theorems.proofs.TestLaws.{ltb_yes, ltb_no}
use Rattle.hiding.proofs.BlockLaws.{digits}
use Rattle.theorems.proofs.FormLaws.{mask_in}
use Rattle.theorems.proofs.HashLaws.{hash-split}
use Rattle.theorems.proofs.SymbolLaws.{sym_symbol, sum_symbol}

module _ (A : Alphabet) (laws : Lawful A) (one : OneMask A) (s : Shape) (H' : List ℕ) where
  open A use {K, width, masks}
  open K use {base}
  open base use {R}
  open R use {F, 𝟘, add as ◌⊕◌, mul as ◌⊗◌}

  infixl 65 ◌⊕◌
  infixl 70 ◌⊗◌
  abbrev row : ℕ → ℕ → F
  row ρ c = symbol A (block_at H' (width (k_of A s)) ρ) c

  pub n≤k : s.n ≤ k_of A s
  unfolding k_of
  n≤k = omega arith

  module _ (first mask : ℕ → F) where
    pub record Fits (g : ℕ → F) : Type 0 where
      pub on_first : (c : ℕ) → c < s.n → g c ≡ first c
      pub on_mask : (e : ℕ) → e < s.τ → mask_of A s e g ≡ mask e
      pub on_hash : (ρ : ℕ) → ρ < s.t → hash A s H' ρ g ≡ 𝟘

    -- ---- any two are equal

    module _ (f g : ℕ → F) (sf : Symbols A f) (sg : Symbols A g) (ff : Fits f) (fg : Fits g) where
      same-masks : (e i : ℕ) → e < s.τ → i < masks → f (mask_at A s e + i) ≡ g (mask_at A s e + i)
      unfolding mask_of
      same-masks e i le l =
          one.same-mask (λ i. f (mask_at A s e + i)) (λ i. g (mask_at A s e + i)) (λ i. sf (mask_at A s e + i)) (λ i. sg (mask_at A s e + i)) (ff.on_mask e le ∙ sym (fg.on_mask e le)) i l

      below : (c : ℕ) → c < k_of A s → f c ≡ g c
      unfolding k_of mask_at
      below c l = go (dec_lt c s.n)
        where
          go : Dec (c < s.n) → f c ≡ g c
          go (yes h) = ff.on_first c h ∙ sym (fg.on_first c h)
          go (no h) =
              let d = digits s.τ masks (c - s.n) (omega arith) in
              let e : s.n + (c - s.n) / masks * masks + (c - s.n) % masks ≡ c = omega (arith, d.2) in
              ap f (sym e) ∙ same-masks ((c - s.n) / masks) ((c - s.n) % masks) d.0 d.1 ∙ ap g e

      last : (h : ℕ → F) → Fits h → (ρ : ℕ) → ρ < s.t → h (k_of A s + ρ) ≡ sum R (k_of A s) (λ c. row ρ c ⊗ h c)
      last h fh ρ l = add-cancel base _ _ (sym (hash-split A s H' ρ h l) ∙ fh.on_hash ρ l)

      pub fits_one : (c : ℕ) → c < l_of A s → f c ≡ g c
      unfolding l_of
      fits_one c l = go (dec_lt c (k_of A s))
        where
          go : Dec (c < k_of A s) → f c ≡ g c
          go (yes h) = below c h
          go (no h) =
              let e : k_of A s + (c - k_of A s) ≡ c = omega arith in
              let k : c - k_of A s < s.t = omega arith in
              ap f (sym e) ∙ last f ff (c - k_of A s) k ∙ sum_congr R (k_of A s) _ _ (λ i li. ap (λ z. row (c - k_of A s) i ⊗ z) (below i li)) ∙ sym (last g fg (c - k_of A s) k) ∙ ap g e

    -- ---- there is one

    low : ℕ → F
    low c = cond (ltb c s.n) (first c) ((one.some-mask (mask ((c - s.n) / masks))).0 ((c - s.n) % masks))

    pub shift_of : ℕ → F
    shift_of c = cond (ltb c (k_of A s)) (low c) (sum R (k_of A s) (λ i. row (c - k_of A s) i ⊗ low i))

    pub shift_symbol : Symbols A first → Symbols A shift_of
    unfolding shift_of low
    shift_symbol k c = go (ltb c (k_of A s))
      where
        lower : (c : ℕ) (b : Bool) → IsSymbol A (cond b (first c) ((one.some-mask (mask ((c - s.n) / masks))).0 ((c - s.n) % masks)))
        lower c true = k c
        lower c false = (one.some-mask (mask ((c - s.n) / masks))).1 ((c - s.n) % masks)

        go : (b : Bool) → IsSymbol A (cond b (low c) (sum R (k_of A s) (λ i. row (c - k_of A s) i ⊗ low i)))
        go true = lower c (ltb c s.n)
        go false = sum_symbol A laws (k_of A s) _ (λ i. laws.mul_symbol _ _ (sym_symbol A laws _ i) (lower i (ltb i s.n)))

    is_low : (c : ℕ) → c < k_of A s → shift_of c ≡ low c
    unfolding shift_of
    is_low c l = ap (λ b. cond b (low c) (sum R (k_of A s) (λ i. row (c - k_of A s) i ⊗ low i))) (ltb_yes c (k_of A s) l)

    is_last : (ρ : ℕ) → shift_of (k_of A s + ρ) ≡ sum R (k_of A s) (λ i. row ρ i ⊗ low i)
    unfolding shift_of
    is_last ρ =
        let e : k_of A s + ρ - k_of A s ≡ ρ = omega arith in
        ap (λ b. cond b (low (k_of A s + ρ)) (sum R (k_of A s) (λ i. row (k_of A s + ρ - k_of A s) i ⊗ low i))) (ltb_no (k_of A s + ρ) (k_of A s) (omega arith))
        ∙ ap (λ ρ. sum R (k_of A s) (λ i. row ρ i ⊗ low i)) e

    low_first : (c : ℕ) → c < s.n → low c ≡ first c
    unfolding low
    low_first c l = ap (λ b. cond b (first c) ((one.some-mask (mask ((c - s.n) / masks))).0 ((c - s.n) % masks))) (ltb_yes c s.n l)

    low_mask : (e i : ℕ) → i < masks → low (mask_at A s e + i) ≡ (one.some-mask (mask e)).0 i
    unfolding low mask_at
    low_mask e i l =
        let c : s.n + e * masks + i - s.n ≡ e * masks + i = omega arith in
        ap (λ b. cond b (first (s.n + e * masks + i)) ((one.some-mask (mask ((s.n + e * masks + i - s.n) / masks))).0 ((s.n + e * masks + i - s.n) % masks))) (ltb_no (s.n + e * masks + i) s.n (omega arith))
        ∙ ap (λ z. (one.some-mask (mask (z / masks))).0 (z % masks)) c
        ∙ ap₂ (λ z w. (one.some-mask (mask z)).0 w) (digits_div e l) (digits_mod e l)

    pub shift_fits : Fits shift_of
    unfolding mask_of
    shift_fits = record {
      on_first = λ c l. is_low c (omega (arith, n≤k)) ∙ low_first c l;
      on_mask = λ e le.
          sum_congr R masks _ _ (λ i l. ap (λ z. power R (α A) i ⊗ z) (is_low (mask_at A s e + i) (mask_in A s e i le l) ∙ low_mask e i l))
          ∙ (one.some-mask (mask e)).2;
      on_hash = λ ρ l.
          hash-split A s H' ρ shift_of l ∙ ap₂ ◌⊕◌ (sum_congr R (k_of A s) _ _ (λ c k. ap (λ z. row ρ c ⊗ z) (is_low c k))) (is_last ρ) ∙ R.add_self _;
    }
