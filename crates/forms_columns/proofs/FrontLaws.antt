-- Columns put among the parts of a string, one after the other, and what stands beside them.
--   Columns g step n cols dst == the first n columns stand in the parts g, g + step, .. of dst
-- Assumes nothing.
use mathlib.Core.Path.{◌≡◌, ap, ◌∙◌}
use mathlib.Core.List.{List}
use mathlib.Core.Logic.{⊎_elim}
use Prim.Native.Nat.{ℕ, ◌+◌, ◌*◌, ◌-◌, ◌/◌, ◌%◌, ◌≤◌, ◌<◌}
use native.Mathlib.Nat.{mul-le-mul_right, eq-or-lt_of_le, le_of_suc-le-suc}
use native.Mathlib.Numerals.{add-one}
use native.Mathlib.Decide.{dec_lt}
use native.Mathlib.Omega.{arith}
use Rattle.protocol.specs.Shape.{most_variables}
use Rattle.strings.specs.Sums.{byte_at}
use Rattle.strings.specs.Rows.{RowsKept}
use Rattle.strings.proofs.Rows.{row-end}
use Rattle.lanes.specs.Lanes.{lanes, lane_at}
use Rattle.forms_columns.specs.Stacks.{coordinate_of, BlockTurned, BesideBlock, FrontIs}

abbrev pub Columns : ℕ → ℕ → ℕ → List ℕ → List ℕ → Type 0
Columns g step n cols dst = (k j : ℕ) → k < n → j < 16 → byte_at dst ((g + k * step) * 16 + j) ≡ byte_at cols (k * 16 + j)

pub last-column : (step k : ℕ) → k < 8 → k * step ≤ 7 * step
last-column step k h = let last : k ≤ 7 = omega arith in mul-le-mul_right step last

module _ (g step k : ℕ) where
  pub columns_more : (cols l l' : List ℕ) → 0 < step → ((j : ℕ) → j < 16 → byte_at l' ((g + k * step) * 16 + j) ≡ byte_at cols (k * 16 + j)) → RowsKept 16 (g + k * step) l l'
      → Columns g step k cols l → Columns g step (k + 1) cols l'
  columns_more cols l l' pos own kept done x j hx hj =
      ⊎_elim (λ (e : x ≡ k). rw e (own j hj))
      (λ (lt : x < k). kept (g + x * step) j (λ e. omega (arith, row-end x k step lt)) hj ∙ done x j lt hj)
      (eq-or-lt_of_le (le_of_suc-le-suc (rw (add-one k) at hx)))

  pub beside_more : (old l l' : List ℕ) → RowsKept 16 (g + k * step) l l' → BesideBlock g step k old l → BesideBlock g step (k + 1) old l'
  beside_more old l l' kept done x j beside hj = kept x j (beside k (omega arith)) hj ∙ done x j (λ i hi. beside i (omega arith)) hj

-- ---- sixteen coordinates of sixteen repetitions: the first eight, and the last

module _ (b first : ℕ) (vs l l₁ l₂ : List ℕ) (few : b < lanes / 16)
    (one : BlockTurned b 3 vs (b * 16 * most_variables + first) most_variables l₁) (beside₁ : BesideBlock b 3 8 l l₁)
    (two : BlockTurned (8 * 3 + b) 3 vs (b * 16 * most_variables + first + 8) most_variables l₂) (beside₂ : BesideBlock (8 * 3 + b) 3 8 l₁ l₂) where
  pub sixteen_is : (k j : ℕ) → k < 16 → j < 16 → lane_at l₂ k (b * 16 + j) ≡ coordinate_of vs (b * 16 + j) (first + k)
  sixteen_is k j hk hj = go (dec_lt k 8)
    where
      go : Dec (k < 8) → lane_at l₂ k (b * 16 + j) ≡ coordinate_of vs (b * 16 + j) (first + k)
      go (yes lt) =
          let at : k * lanes + (b * 16 + j) ≡ (b + k * 3) * 16 + j = omega arith in
          let from : b * 16 * most_variables + first + j * most_variables + k ≡ (b * 16 + j) * most_variables + (first + k) = omega arith in
          ap (byte_at l₂) at ∙ beside₂ (b + k * 3) j (λ i hi e. omega arith) hj ∙ one k j lt hj ∙ ap (byte_at vs) from
      go (no ge) =
          let at : k * lanes + (b * 16 + j) ≡ (8 * 3 + b + (k - 8) * 3) * 16 + j = omega arith in
          let from : b * 16 * most_variables + first + 8 + j * most_variables + (k - 8) ≡ (b * 16 + j) * most_variables + (first + k) = omega arith in
          ap (byte_at l₂) at ∙ two (k - 8) j (omega arith) hj ∙ ap (byte_at vs) from

  pub sixteen_kept : (k e : ℕ) → k < 16 → e < b * 16 → lane_at l₂ k e ≡ lane_at l k e
  sixteen_kept k e hk he =
      let at : k * lanes + e ≡ (k * 3 + e / 16) * 16 + e % 16 = omega arith in
      rw at (beside₂ (k * 3 + e / 16) (e % 16) (λ i hi same. omega arith) (omega arith) ∙ beside₁ (k * 3 + e / 16) (e % 16) (λ i hi same. omega arith) (omega arith))

pub front_more : (b first : ℕ) (vs l l' : List ℕ) → ((k j : ℕ) → k < 16 → j < 16 → lane_at l' k (b * 16 + j) ≡ coordinate_of vs (b * 16 + j) (first + k))
    → ((k e : ℕ) → k < 16 → e < b * 16 → lane_at l' k e ≡ lane_at l k e) → FrontIs (b * 16) vs first l → FrontIs ((b + 1) * 16) vs first l'
front_more b first vs l l' own kept done k e hk he = go (dec_lt e (b * 16))
  where
    go : Dec (e < b * 16) → lane_at l' k e ≡ coordinate_of vs e (first + k)
    go (yes lt) = kept k e hk lt ∙ done k e hk lt
    go (no ge) = let at : e ≡ b * 16 + (e - b * 16) = omega arith in rw at (own k (e - b * 16) hk (omega arith))
