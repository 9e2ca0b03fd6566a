-- What the cells of a part of a panel come to.
-- Assumes nothing.
use mathlib.Core.Path.{◌≡◌, sym, ap, ap₂, ◌∙◌}
use mathlib.Core.List.{List}
use Prim.Native.Nat.{ℕ, ◌+◌, ◌*◌, ◌/◌, ◌%◌, ◌≤◌, ◌<◌}
use native.Mathlib.Decide.{dec_lt}
use native.Mathlib.Omega.{arith}
use Rattle.strings.specs.Sums.{xor_sum}
use Rattle.strings.proofs.SumLaws.{sum_same}
use Rattle.chunks.proofs.BitSumLaws.{sum-swap, sum-blocks}
use Rattle.forms_folds.specs.Folds.{Folded}
use Rattle.forms_columns.specs.Stacks.{byte_product, stack_of, fold_of}
use Rattle.forms_columns.proofs.ProductLaws.{product-zero}
use Rattle.forms_batching.specs.Batched.{cell_sum, batched_byte, rows_sum}

module _ (d n w m : ℕ) (A : List ℕ) (χ : ℕ → ℕ → ℕ) (cells : List ℕ) (e top J count rows : ℕ)
    (loaded : Folded n w m A top J count cells) (held : rows ≤ count) (above : rows ≤ J + 1) where
  cell_is : (q h f z : ℕ) → q < rows → h < 2 → f < 16 → z < 8 → (top + q) * 16 + f < n → (top + J) * 16 + (h * 8 + z) < n
      → cell_sum cells m χ e q (h * 16 + f) z ≡ batched_byte w (n * w) m A χ e ((top + q) * 16 + f) ((top + J) * 16 + (h * 8 + z))
  unfolding cell_sum batched_byte
  cell_is q h f z hq hh hf hz row col = sum_same m _ _ (λ i l. ap (λ x. x * χ e i) (loaded q i h f z (omega arith) (omega arith) l hh hf hz row col))

  module _ (W : ℕ → ℕ) (none : (ρ : ℕ) → n ≤ ρ → ρ < (top + rows) * 16 → W ρ ≡ 0) where
    -- there are no rows from n on
    term_is : (q h f z : ℕ) → q < rows → h < 2 → f < 16 → z < 8 → (top + J) * 16 + (h * 8 + z) < n
        → byte_product d (W ((top + q) * 16 + f)) (cell_sum cells m χ e q (h * 16 + f) z)
        ≡ byte_product d (W ((top + q) * 16 + f)) (batched_byte w (n * w) m A χ e ((top + q) * 16 + f) ((top + J) * 16 + (h * 8 + z)))
    term_is q h f z hq hh hf hz col = go (dec_lt ((top + q) * 16 + f) n)
      where
        go : Dec ((top + q) * 16 + f < n) → byte_product d (W ((top + q) * 16 + f)) (cell_sum cells m χ e q (h * 16 + f) z)
            ≡ byte_product d (W ((top + q) * 16 + f)) (batched_byte w (n * w) m A χ e ((top + q) * 16 + f) ((top + J) * 16 + (h * 8 + z)))
        go (yes row) = ap (byte_product d (W ((top + q) * 16 + f))) (cell_is q h f z hq hh hf hz row col)
        go (no past) =
            let zero : W ((top + q) * 16 + f) ≡ 0 = none ((top + q) * 16 + f) (omega arith) (omega arith) in
            rw zero (product-zero d (cell_sum cells m χ e q (h * 16 + f) z) ∙ sym (product-zero d (batched_byte w (n * w) m A χ e ((top + q) * 16 + f) ((top + J) * 16 + (h * 8 + z)))))

    -- the sum over the sixteen bytes of a half
    pub fold_is : (T : List ℕ) (s : ℕ) → s < 16 → (top + J) * 16 + s < n
        → ((f : ℕ) → f < 16
        → stack_of d T e (s / 8 * 16 + f) (s % 8) ≡ xor_sum rows (λ q. byte_product d (W ((top + q) * 16 + f)) (cell_sum cells m χ e q (s / 8 * 16 + f) (s % 8))))
        → fold_of d T e (s / 8) (s % 8) ≡ rows_sum d w (n * w) m A χ e W top rows ((top + J) * 16 + s)
    unfolding fold_of
    fold_is T s hs col are =
        let place : (top + J) * 16 + (s / 8 * 8 + s % 8) ≡ (top + J) * 16 + s = omega arith in
        sum_same 16 _ (λ f. xor_sum rows (λ q. byte_product d (W (top * 16 + (q * 16 + f))) (batched_byte w (n * w) m A χ e (top * 16 + (q * 16 + f)) ((top + J) * 16 + s))))
        (λ f hf. are f hf ∙ sum_same rows _ _ (λ q hq.
        let row : (top + q) * 16 + f ≡ top * 16 + (q * 16 + f) = omega arith in
        term_is q (s / 8) f (s % 8) hq (omega arith) hf (omega arith) (omega arith)
        ∙ ap₂ (λ ρ c. byte_product d (W ρ) (batched_byte w (n * w) m A χ e ρ c)) row place))
        ∙ sum-swap 16 rows (λ f q. byte_product d (W (top * 16 + (q * 16 + f))) (batched_byte w (n * w) m A χ e (top * 16 + (q * 16 + f)) ((top + J) * 16 + s)))
        ∙ sum-blocks rows 16 (λ ρ. byte_product d (W (top * 16 + ρ)) (batched_byte w (n * w) m A χ e (top * 16 + ρ) ((top + J) * 16 + s)))
