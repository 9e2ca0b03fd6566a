-- Strings whose bytes are elements of the field.
--   Below b l == each entry of l is below b
-- Assumes nothing.
use mathlib.Core.Path.{◌≡◌, refl, sym, ◌∙◌}
use mathlib.Core.Bool.{true, true≢false}
use mathlib.Core.List.{List, [], ◌∷◌, ◌++◌, map}
use Prim.Native.Nat.{ℕ, zero, suc, ◌≤◌, ◌<◌}
use native.Mathlib.Decide.{dec_lt}
use native.Mathlib.Omega.{arith}
use lib.Dec.{ltb}
use lib.ListN.{length, get_or, length-map}
use Rattle.protocol.specs.Lists.{table, concat}
use Rattle.protocol.specs.Strings.{bytes}
use Rattle.protocol.specs.Alphabet.{Alphabet, elements_in}
use Rattle.protocol.specs.Shape.{Shape}
use Rattle.protocol.specs.Prover.{ṼSection, qs0_section, qs1_section, sections_of}
use Rattle.protocol.specs.Questions.{proof_elements}
use Rattle.theorems.proofs.TestLaws.{all-at, all_of, true-all, ltb_yes, ltb_no}
use Rattle.theorems.proofs.ListLaws.{get_d_map}

abbrev pub Below : ℕ → List ℕ → Type 0
Below b l = (i : ℕ) → i < length l → get_or l i 0 < b

below-append : (b : ℕ) (s t : List ℕ) → Below b s → Below b t → Below b (s ++ t)
below-append b [] t g h i l = h i l
below-append b (x ∷ s) t g h zero l = g 0 (omega arith)
below-append b (x ∷ s) t g h (suc i) l = below-append b s t (λ j k. g (suc j) (omega arith)) h i (omega arith)

below-table : (b n : ℕ) (f : ℕ → ℕ) → ((i : ℕ) → f i < b) → Below b (table n f)
unfolding table
below-table b zero f h i l = absurd (omega arith)
below-table b (suc n) f h zero l = h 0
below-table b (suc n) f h (suc i) l = below-table b n (λ i. f (suc i)) (λ i. h (suc i)) i (omega arith)

below_tables : (b n : ℕ) (f : ℕ → List ℕ) → ((i : ℕ) → Below b (f i)) → Below b (concat (table n f))
unfolding table concat
below_tables b zero f h = λ i l. absurd (omega arith)
below_tables b (suc n) f h = below-append b (f 0) (concat (table n (λ i. f (suc i)))) (h 0) (below_tables b n (λ i. f (suc i)) (λ i. h (suc i)))

past_end : (l : List ℕ) (i : ℕ) → length l ≤ i → get_or l i 0 ≡ 0
past_end [] i h = refl
past_end (x ∷ l) zero h = absurd (omega arith)
past_end (x ∷ l) (suc i) h = past_end l i (omega arith)

pub ltb_lt : (m n : ℕ) → ltb m n ≡ true → m < n
ltb_lt m n h = go (dec_lt m n)
  where
    go : Dec (m < n) → m < n
    go (yes l) = l
    go (no l) = absurd (true≢false (sym h ∙ ltb_no m n (omega (arith, l))))

module _ (A : Alphabet) where
  open A use {K}
  open K use {base, byte}
  open base use {R, size}
  open R use {F, 𝟘}

  pub elements_of : (l : List ℕ) → Below size l → elements_in A l ≡ true
  unfolding elements_in
  elements_of l h = all_of (length l) _ (λ i k. ltb_yes _ _ (h i k))

  -- an entry that is not there reads as 0
  pub element_lt : (l : List ℕ) → elements_in A l ≡ true → (i : ℕ) → get_or l i 0 < size
  unfolding elements_in
  element_lt l h i = go (dec_lt i (length l))
    where
      go : Dec (i < length l) → get_or l i 0 < size
      go (yes k) = ltb_lt _ _ (all-at (length l) _ h i k)
      go (no k) = omega (arith, past_end l i (omega (arith, k)), base.four≤size)

  pub elements-map : (Δ : List F) → elements_in A (map byte Δ) ≡ true
  elements-map Δ =
      elements_of (map byte Δ) (λ i l. let k : i < length Δ = rw (← (length-map Δ byte)) l in rw (get_d_map byte Δ i 𝟘 0 k) (K.byte_lt (get_or Δ i 𝟘)))

  -- of 256 elements every byte is one
  pub elements-bytes : size ≡ 256 → (l : List ℕ) → bytes l → elements_in A l ≡ true
  elements-bytes h l b = elements_of l (λ i k. rw h (b i k))

  pub honest-elements : (s : Shape) (leaves key x H' χ : List ℕ) → proof_elements A s (sections_of A s leaves key x H' χ) ≡ true
  unfolding proof_elements ṼSection qs0_section qs1_section
  honest-elements s leaves key x H' χ =
      true-all (elements_in A (ṼSection A s leaves H') ∷ elements_in A (qs0_section A s leaves key χ) ∷ elements_in A (qs1_section A s leaves key x χ) ∷ []) (
        elements_of _ (below_tables size s.τ _ (λ e. below-table size s.t _ (λ ρ. K.byte_lt _))),
        (elements_of _ (below-table size s.τ _ (λ e. K.byte_lt _)), (elements_of _ (below-table size s.τ _ (λ e. K.byte_lt _)), tt)),
      )
