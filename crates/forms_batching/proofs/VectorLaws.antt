-- Vectors that are turned out of a table, sixteen coordinates of eight repetitions at a time.
-- Assumes nothing.
use mathlib.Core.Path.{◌≡◌, sym, ap, ◌∙◌}
use mathlib.Core.List.{List}
use Prim.Native.Nat.{ℕ, ◌+◌, ◌*◌, ◌-◌, ◌/◌, ◌%◌, ◌^◌, ◌≤◌, ◌<◌}
use native.Mathlib.Decide.{dec_lt}
use native.Mathlib.Omega.{arith}
use lib.ListN.{length}
use lib.Pow.{pow_pos}
use borrow.Rule.Slice.PartMut.{put_mid}
use Rattle.protocol.specs.Shape.{most_variables}
use Rattle.galois.specs.Degrees.{degree_of}
use Rattle.strings.specs.Sums.{byte_at}
use Rattle.strings.proofs.Rows.{put_before, put_in, put_after}
use Rattle.lanes.specs.Lanes.{lanes, lane_at}
use Rattle.forms_choices.specs.Entries.{up_to}
use Rattle.forms_choices.proofs.ChoiceLaws.{up-to-first, up-to-past}
use Rattle.forms_columns.specs.Stacks.{coordinate_of, BlockTurned, BesideBlock}
use Rattle.forms_batching.specs.Batched.{VectorsNarrow, VectorsAre, SixteenTurned, BesideSixteen}
use Rattle.forms_batching.specs.Lines.{VectorsEnd}

-- the sixteens of coordinates of a vector
abbrev pub sixteens : ℕ
sixteens = most_variables / 16

module _ (b c : ℕ) (T l l' : List ℕ) (inside : c < sixteens)
    (turned : BlockTurned (b * 8 * sixteens + c) sixteens T (c * 16 * lanes + b * 8) lanes l') (beside : BesideBlock (b * 8 * sixteens + c) sixteens 8 l l') where
  -- a coordinate, in its part
  part_of : (e k : ℕ) → e * most_variables + k ≡ (e * sixteens + k / 16) * 16 + k % 16
  part_of e k = omega arith

  other : (e k : ℕ) → k < most_variables → ((i : ℕ) → i < 8 → e * sixteens + k / 16 ≡ b * 8 * sixteens + c + i * sixteens → ⊥) → coordinate_of l' e k ≡ coordinate_of l e k
  other e k hk away = rw (part_of e k) (beside (e * sixteens + k / 16) (k % 16) away (omega arith))

  pub eight-turned : SixteenTurned (b * 8) c T l → SixteenTurned ((b + 1) * 8) c T l'
  eight-turned done e j he hj = go (dec_lt e (b * 8))
    where
      go : Dec (e < b * 8) → coordinate_of l' e (c * 16 + j) ≡ lane_at T (c * 16 + j) e
      go (yes lt) = other e (c * 16 + j) (omega arith) (λ i hi same. omega arith) ∙ done e j lt hj
      go (no ge) =
          let at : e * most_variables + (c * 16 + j) ≡ (b * 8 * sixteens + c + (e - b * 8) * sixteens) * 16 + j = omega arith in
          let from : c * 16 * lanes + b * 8 + j * lanes + (e - b * 8) ≡ (c * 16 + j) * lanes + e = omega arith in
          ap (byte_at l') at ∙ turned (e - b * 8) j (omega arith) hj ∙ ap (byte_at T) from

  pub eight_beside : (l₀ : List ℕ) → BesideSixteen c l₀ l → BesideSixteen c l₀ l'
  eight_beside l₀ done e k hk away = other e k hk (λ i hi same. let own : k / 16 ≡ c = omega arith in away own) ∙ done e k hk away

-- one sixteen more
pub sixteen_more : (τ c : ℕ) (T l l' : List ℕ) → c < sixteens → SixteenTurned τ c T l' → BesideSixteen c l l'
    → ((e k : ℕ) → e < τ → k < c * 16 → coordinate_of l e k ≡ lane_at T k e) → (e k : ℕ) → e < τ → k < (c + 1) * 16 → coordinate_of l' e k ≡ lane_at T k e
sixteen_more τ c T l l' inside turned beside done e k he hk = go (dec_lt k (c * 16))
  where
    go : Dec (k < c * 16) → coordinate_of l' e k ≡ lane_at T k e
    go (yes lt) = beside e k (omega arith) (λ same. omega arith) ∙ done e k he lt
    go (no ge) = let at : k ≡ c * 16 + (k - c * 16) = omega arith in rw at (turned e (k - c * 16) he (omega arith))

-- ---- the last coordinates of a vector, written at once

module _ (e from : ℕ) (l r : List ℕ) (fits : e * most_variables + most_variables ≤ length l) (low : from ≤ most_variables) (long : length r ≡ most_variables - from) where
  abbrev whole : List ℕ
  whole = put_mid (e * most_variables + from) (most_variables - from) l r

  inside : e * most_variables + from + (most_variables - from) ≤ length l
  inside = omega arith

  pub rest_in : (c : ℕ) → from ≤ c → c < most_variables → coordinate_of whole e c ≡ byte_at r (c - from)
  rest_in c hc hm =
      let at : e * most_variables + c ≡ e * most_variables + from + (c - from) = omega arith in
      ap (byte_at whole) at ∙ put_in (e * most_variables + from) (most_variables - from) l r inside long (c - from) (omega arith)

  pub rest-kept : (f c : ℕ) → c < most_variables → (f ≡ e → from ≤ c → ⊥) → coordinate_of whole f c ≡ coordinate_of l f c
  rest-kept f c hm away = go (dec_lt (f * most_variables + c) (e * most_variables + from)) (dec_lt (f * most_variables + c) (e * most_variables + most_variables))
    where
      go : Dec (f * most_variables + c < e * most_variables + from) → Dec (f * most_variables + c < e * most_variables + most_variables) → coordinate_of whole f c ≡ coordinate_of l f c
      go (yes before) d = put_before (e * most_variables + from) (most_variables - from) l r inside long (f * most_variables + c) before
      go (no from') (yes own) = let same : f ≡ e = omega arith in absurd (away same (omega arith))
      go (no from') (no past) =
          let at : f * most_variables + c ≡ e * most_variables + from + (most_variables - from + (f * most_variables + c - (e * most_variables + most_variables))) = omega arith in
          rw at (put_after (e * most_variables + from) (most_variables - from) l r inside long (f * most_variables + c - (e * most_variables + most_variables)))

-- ---- the whole sixteens, and the rest

pub vectors-are : (n τ count : ℕ) (T l l' : List ℕ) → count * 16 ≤ n → ((e k : ℕ) → e < τ → k < count * 16 → coordinate_of l e k ≡ lane_at T k e)
    → ((e c : ℕ) → e < τ → count * 16 ≤ c → c < most_variables → coordinate_of l' e c ≡ up_to n (λ k. lane_at T k e) c)
    → ((e c : ℕ) → c < count * 16 → coordinate_of l' e c ≡ coordinate_of l e c) → VectorsAre n τ T l'
vectors-are n τ count T l l' few turned rest kept e c he hc = go (dec_lt c (count * 16))
  where
    go : Dec (c < count * 16) → coordinate_of l' e c ≡ up_to n (λ k. lane_at T k e) c
    go (yes lt) = kept e c lt ∙ turned e c he lt ∙ sym (up-to-first n (λ k. lane_at T k e) c (omega arith))
    go (no ge) = rest e c he (omega arith) hc

pub vectors-end : (n τ : ℕ) (T vs : List ℕ) → VectorsAre n τ T vs → VectorsEnd n τ vs
vectors-end n τ T vs are e c he past hc = are e c he hc ∙ up-to-past n (λ k. lane_at T k e) c past

-- vectors that are taken from lanes whose coordinates are below b
pub vectors_below : (b n τ : ℕ) (T vs : List ℕ) → 0 < b → VectorsAre n τ T vs → ((e c : ℕ) → e < τ → c < n → lane_at T c e < b)
    → (e c : ℕ) → e < τ → c < most_variables → coordinate_of vs e c < b
vectors_below b n τ T vs pos are small e c he hc = go (dec_lt c n)
  where
    go : Dec (c < n) → coordinate_of vs e c < b
    go (yes lt) = rw (are e c he hc ∙ up-to-first n (λ k. lane_at T k e) c lt) (small e c he lt)
    go (no ge) = rw (are e c he hc ∙ up-to-past n (λ k. lane_at T k e) c (omega arith)) pos

pub vectors_narrow : (d n τ : ℕ) (T vs : List ℕ) → ((e c : ℕ) → e < τ → c < n → lane_at T c e < 2 ^ degree_of d) → VectorsAre n τ T vs → VectorsNarrow d τ vs
vectors_narrow d n τ T vs small are = vectors_below (2 ^ degree_of d) n τ T vs (pow_pos (degree_of d)) are small
