-- The entries that the bits of the batching bytes choose in the table of sums, added, are the rows that these bits
-- select.
-- Assumes nothing.
use Prim.Native.Nat.{ℕ, zero, suc, ◌+◌, ◌*◌, ◌-◌, ◌/◌, ◌%◌, ◌^◌, ◌≤◌, ◌<◌}
use mathlib.Core.Path.{◌≡◌, refl, sym, ap, ap₂, ◌∙◌}
use mathlib.Core.Bool.{cond}
use mathlib.Core.List.{List}
use native.Mathlib.Nat.{add-zero, mul-zero}
use native.Mathlib.Decide.{dec_lt}
use native.Mathlib.Omega.{arith}
use lib.ListN.{length, get_or-eq_default}
use lib.Bits.{bit_xor, xor_zero_r}
use Rattle.theorems.proofs.TestLaws.{ltb_yes, ltb_no}
use Rattle.strings.specs.Sums.{byte_at, bit_of, xor_sum}
use Rattle.strings.proofs.SumLaws.{sum_same, sum_parts, sum_past}
use Rattle.strings.proofs.Meaning.{bitOf_lt}
use Rattle.chunks.specs.Chunks.{chunk, cell_at}
use Rattle.chunks.proofs.BitSumLaws.{sum-blocks}
use Rattle.forms_choices.specs.Entries.{entry_byte, choice, five, fives_word, row_five, up_to, Chosen, word_byte, looked_up, InWords, Weighed}

-- ---- the five bits of a choice

five_lt : (a b c d e : ℕ) → a < 2 → b < 2 → c < 2 → d < 2 → e < 2 → a + b * 2 + c * 4 + d * 8 + e * 16 < 32
five_lt a b c d e h k l m n = omega arith

pub choice_lt : (χ : ℕ → ℕ) (p g : ℕ) → choice χ p g < 32
unfolding choice
choice_lt χ p g =
    five_lt (bit_of (χ (g * 5)) p) (bit_of (χ (g * 5 + 1)) p) (bit_of (χ (g * 5 + 2)) p) (bit_of (χ (g * 5 + 3)) p) (bit_of (χ (g * 5 + 4)) p) (bitOf_lt _ p) (bitOf_lt _ p) (bitOf_lt _ p) (bitOf_lt _ p) (bitOf_lt _ p)

five-bits : (a b c d e : ℕ) → a < 2 → b < 2 → c < 2 → d < 2 → e < 2
    → (bit_of (a + b * 2 + c * 4 + d * 8 + e * 16) 0 ≡ a) × (bit_of (a + b * 2 + c * 4 + d * 8 + e * 16) 1 ≡ b) × (bit_of (a + b * 2 + c * 4 + d * 8 + e * 16) 2 ≡ c) × (bit_of (a + b * 2 + c * 4 + d * 8 + e * 16) 3 ≡ d) × (bit_of (a + b * 2 + c * 4 + d * 8 + e * 16) 4 ≡ e)
unfolding bit_of
five-bits a b c d e h k l m n = (omega arith, omega arith, omega arith, omega arith, omega arith)

choice-bits : (χ : ℕ → ℕ) (p g : ℕ)
    → (bit_of (choice χ p g) 0 ≡ bit_of (χ (g * 5)) p) × (bit_of (choice χ p g) 1 ≡ bit_of (χ (g * 5 + 1)) p) × (bit_of (choice χ p g) 2 ≡ bit_of (χ (g * 5 + 2)) p) × (bit_of (choice χ p g) 3 ≡ bit_of (χ (g * 5 + 3)) p) × (bit_of (choice χ p g) 4 ≡ bit_of (χ (g * 5 + 4)) p)
unfolding choice
choice-bits χ p g =
    five-bits (bit_of (χ (g * 5)) p) (bit_of (χ (g * 5 + 1)) p) (bit_of (χ (g * 5 + 2)) p) (bit_of (χ (g * 5 + 3)) p) (bit_of (χ (g * 5 + 4)) p) (bitOf_lt _ p) (bitOf_lt _ p) (bitOf_lt _ p) (bitOf_lt _ p) (bitOf_lt _ p)

pub choice-bit : (χ : ℕ → ℕ) (p g s : ℕ) → s < 5 → bit_of (choice χ p g) s ≡ bit_of (χ (g * 5 + s)) p
choice-bit χ p g zero h = (choice-bits χ p g).0 ∙ ap (λ (i : ℕ). bit_of (χ i) p) (sym (add-zero (g * 5)))
choice-bit χ p g (suc zero) h = (choice-bits χ p g).1
choice-bit χ p g (suc (suc zero)) h = (choice-bits χ p g).2
choice-bit χ p g (suc (suc (suc zero))) h = (choice-bits χ p g).3
choice-bit χ p g (suc (suc (suc (suc zero)))) h = (choice-bits χ p g).4
choice-bit χ p g (suc (suc (suc (suc (suc s))))) h = absurd (omega arith)

pub choice-same : (χ ψ : ℕ → ℕ) (p g : ℕ) → ((i : ℕ) → i < g * 5 + 5 → χ i ≡ ψ i) → choice χ p g ≡ choice ψ p g
unfolding choice
choice-same χ ψ p g same =
    rw (same (g * 5) (omega arith), same (g * 5 + 1) (omega arith), same (g * 5 + 2) (omega arith), same (g * 5 + 3) (omega arith), same (g * 5 + 4) (omega arith))

-- ---- the first m

pub up-to-first : (m : ℕ) (f : ℕ → ℕ) (i : ℕ) → i < m → up_to m f i ≡ f i
unfolding up_to
up-to-first m f i h = ap (λ b. cond b (f i) 0) (ltb_yes i m h)

pub up-to-past : (m : ℕ) (f : ℕ → ℕ) (i : ℕ) → m ≤ i → up_to m f i ≡ 0
unfolding up_to
up-to-past m f i h = ap (λ b. cond b (f i) 0) (ltb_no i m h)

-- ---- entries

pub entry-chosen : (S : List ℕ) (χ : ℕ → ℕ) (p g f : ℕ) → entry_byte S (g * 32 + choice χ p g) f ≡ xor_sum 5 (λ s. bit_of (χ (g * 5 + s)) p * cell_at S (g * 5 + s) f)
entry-chosen S χ p g f =
    let small = choice_lt χ p g in
    let q : (g * 32 + choice χ p g) / 32 * 5 ≡ g * 5 = omega arith in
    let r : (g * 32 + choice χ p g) % 32 ≡ choice χ p g = omega arith in
    rw (q, r) (sum_same 5 _ _ (λ s h. ap (λ (x : ℕ). x * cell_at S (g * 5 + s) f) (choice-bit χ p g s h)))

-- ---- words

-- the fives of a word, each by those below it
word-digits : (P : List ℕ) (at w : ℕ) → w ≡ fives_word P at
    → (byte_at P at < 32 → w / 1 % 32 ≡ byte_at P at) × (byte_at P at < 32 → byte_at P (at + 1) < 32 → w / 32 % 32 ≡ byte_at P (at + 1)) × (byte_at P at < 32 → byte_at P (at + 1) < 32 → byte_at P (at + 2) < 32 → w / 1024 % 32 ≡ byte_at P (at + 2)) × (byte_at P at < 32 → byte_at P (at + 1) < 32 → byte_at P (at + 2) < 32 → byte_at P (at + 3) < 32 → w / 32768 % 32 ≡ byte_at P (at + 3)) × (byte_at P at < 32 → byte_at P (at + 1) < 32 → byte_at P (at + 2) < 32 → byte_at P (at + 3) < 32 → byte_at P (at + 4) < 32 → w / 1048576 % 32 ≡ byte_at P (at + 4)) × (byte_at P at < 32 → byte_at P (at + 1) < 32 → byte_at P (at + 2) < 32 → byte_at P (at + 3) < 32 → byte_at P (at + 4) < 32 → byte_at P (at + 5) < 32 → w / 33554432 % 32 ≡ byte_at P (at + 5)) × (byte_at P at < 32 → byte_at P (at + 1) < 32 → byte_at P (at + 2) < 32 → byte_at P (at + 3) < 32 → byte_at P (at + 4) < 32 → byte_at P (at + 5) < 32 → byte_at P (at + 6) < 32 → w / 1073741824 % 32 ≡ byte_at P (at + 6)) × (byte_at P at < 32 → byte_at P (at + 1) < 32 → byte_at P (at + 2) < 32 → byte_at P (at + 3) < 32 → byte_at P (at + 4) < 32 → byte_at P (at + 5) < 32 → byte_at P (at + 6) < 32 → byte_at P (at + 7) < 32 → w / 34359738368 % 32 ≡ byte_at P (at + 7)) × (byte_at P at < 32 → byte_at P (at + 1) < 32 → byte_at P (at + 2) < 32 → byte_at P (at + 3) < 32 → byte_at P (at + 4) < 32 → byte_at P (at + 5) < 32 → byte_at P (at + 6) < 32 → byte_at P (at + 7) < 32 → byte_at P (at + 8) < 32 → w / 1099511627776 % 32 ≡ byte_at P (at + 8)) × (byte_at P at < 32 → byte_at P (at + 1) < 32 → byte_at P (at + 2) < 32 → byte_at P (at + 3) < 32 → byte_at P (at + 4) < 32 → byte_at P (at + 5) < 32 → byte_at P (at + 6) < 32 → byte_at P (at + 7) < 32 → byte_at P (at + 8) < 32 → byte_at P (at + 9) < 32 → w / 35184372088832 % 32 ≡ byte_at P (at + 9))
word-digits P at w is = (
  (λ l0. omega arith),
  (λ l0 l1. omega arith),
  (λ l0 l1 l2. omega arith),
  (λ l0 l1 l2 l3. omega arith),
  (λ l0 l1 l2 l3 l4. omega arith),
  (λ l0 l1 l2 l3 l4 l5. omega arith),
  (λ l0 l1 l2 l3 l4 l5 l6. omega arith),
  (λ l0 l1 l2 l3 l4 l5 l6 l7. omega arith),
  (λ l0 l1 l2 l3 l4 l5 l6 l7 l8. omega arith),
  (λ l0 l1 l2 l3 l4 l5 l6 l7 l8 l9. omega arith),
)

-- a word holds its fives
pub word-five : (P : List ℕ) (at j : ℕ) → j < 10 → ((i : ℕ) → i ≤ j → byte_at P (at + i) < 32) → five (fives_word P at) j ≡ byte_at P (at + j)
unfolding five
word-five P at j h small = go j h small
  where
    go : (j : ℕ) → j < 10 → ((i : ℕ) → i ≤ j → byte_at P (at + i) < 32) → fives_word P at / 2 ^ (5 * j) % 32 ≡ byte_at P (at + j)
    go zero h l = (word-digits P at (fives_word P at) refl).0 (rw (add-zero at) at (l 0 (omega arith))) ∙ ap (byte_at P) (sym (add-zero at))
    go (suc zero) h l = (word-digits P at (fives_word P at) refl).1 (rw (add-zero at) at (l 0 (omega arith))) (l 1 (omega arith))
    go (suc (suc zero)) h l = (word-digits P at (fives_word P at) refl).2 (rw (add-zero at) at (l 0 (omega arith))) (l 1 (omega arith)) (l 2 (omega arith))
    go (suc (suc (suc zero))) h l = (word-digits P at (fives_word P at) refl).3 (rw (add-zero at) at (l 0 (omega arith))) (l 1 (omega arith)) (l 2 (omega arith)) (l 3 (omega arith))
    go (suc (suc (suc (suc zero)))) h l = (word-digits P at (fives_word P at) refl).4 (rw (add-zero at) at (l 0 (omega arith))) (l 1 (omega arith)) (l 2 (omega arith)) (l 3 (omega arith)) (l 4 (omega arith))
    go (suc (suc (suc (suc (suc zero))))) h l = (word-digits P at (fives_word P at) refl).5 (rw (add-zero at) at (l 0 (omega arith))) (l 1 (omega arith)) (l 2 (omega arith)) (l 3 (omega arith)) (l 4 (omega arith)) (l 5 (omega arith))
    go (suc (suc (suc (suc (suc (suc zero)))))) h l = (word-digits P at (fives_word P at) refl).6 (rw (add-zero at) at (l 0 (omega arith))) (l 1 (omega arith)) (l 2 (omega arith)) (l 3 (omega arith)) (l 4 (omega arith)) (l 5 (omega arith)) (l 6 (omega arith))
    go (suc (suc (suc (suc (suc (suc (suc zero))))))) h l = (word-digits P at (fives_word P at) refl).7 (rw (add-zero at) at (l 0 (omega arith))) (l 1 (omega arith)) (l 2 (omega arith)) (l 3 (omega arith)) (l 4 (omega arith)) (l 5 (omega arith)) (l 6 (omega arith)) (l 7 (omega arith))
    go (suc (suc (suc (suc (suc (suc (suc (suc zero)))))))) h l = (word-digits P at (fives_word P at) refl).8 (rw (add-zero at) at (l 0 (omega arith))) (l 1 (omega arith)) (l 2 (omega arith)) (l 3 (omega arith)) (l 4 (omega arith)) (l 5 (omega arith)) (l 6 (omega arith)) (l 7 (omega arith)) (l 8 (omega arith))
    go (suc (suc (suc (suc (suc (suc (suc (suc (suc zero))))))))) h l = (word-digits P at (fives_word P at) refl).9 (rw (add-zero at) at (l 0 (omega arith))) (l 1 (omega arith)) (l 2 (omega arith)) (l 3 (omega arith)) (l 4 (omega arith)) (l 5 (omega arith)) (l 6 (omega arith)) (l 7 (omega arith)) (l 8 (omega arith)) (l 9 (omega arith))
    go (suc (suc (suc (suc (suc (suc (suc (suc (suc (suc k)))))))))) h l = absurd (omega arith)

-- a repetition's eight rows, after those of the earlier ones
pub chosen-next : (χ : ℕ → ℕ → ℕ) (W W' : List ℕ) (m e : ℕ) → ((p : ℕ) → p < 8 → Chosen χ m W' (e * 8 + p)) → ((q k : ℕ) → q < e * 8 → k < 4 → byte_at W' (q * 4 + k) ≡ byte_at W (q * 4 + k))
    → ((q : ℕ) → q < e * 8 → Chosen χ m W q) → (q : ℕ) → q < (e + 1) * 8 → Chosen χ m W' q
chosen-next χ W W' m e own kept done q h = go (dec_lt q (e * 8))
  where
    go : Dec (q < e * 8) → Chosen χ m W' q
    go (yes lt) = λ g hg. ap (λ (w : ℕ). five w (g % 10)) (kept q (g / 10) lt (omega arith)) ∙ done q lt g hg
    go (no ge) = let same : e * 8 + (q - e * 8) ≡ q = omega arith in rw same at (own (q - e * 8) (omega arith))

-- ---- what is looked up

-- n fives of the next word
pub looked_more : (sums W : List ℕ) (r k n f : ℕ) → n ≤ 10 → looked_up sums W r (k * 10 + n) f ≡ bit_xor (looked_up sums W r (k * 10) f) (word_byte sums k n (byte_at W (r * 4 + k)) f)
looked_more sums W r k n f h =
    sum_parts (k * 10) n (λ g. cell_at sums (g * 32 + row_five W r g) f)
    ∙ ap (bit_xor (looked_up sums W r (k * 10) f))
    (sum_same n _ _ (λ j hj.
    let q : (k * 10 + j) / 10 ≡ k = omega arith in
    let s : (k * 10 + j) % 10 ≡ j = omega arith in
    ap₂ (λ (x y : ℕ). cell_at sums ((k * 10 + j) * 32 + five (byte_at W (r * 4 + x)) y) f) q s))

-- whole words, and the two fives of the last
pub looked_last : (sums W : List ℕ) (r G f : ℕ) → InWords G → looked_up sums W r G f ≡ bit_xor (looked_up sums W r (G / 10 * 10) f) (word_byte sums 3 (G - 30) (byte_at W (r * 4 + 3)) f)
unfolding xor_sum
looked_last sums W r G f whole = go (dec_lt 30 G)
  where
    go : Dec (30 < G) → looked_up sums W r G f ≡ bit_xor (looked_up sums W r (G / 10 * 10) f) (word_byte sums 3 (G - 30) (byte_at W (r * 4 + 3)) f)
    go (yes l) = rw (whole.2 l) (looked_more sums W r 3 2 f (omega arith))
    go (no l) =
        let words : G / 10 * 10 ≡ G = omega (arith, whole.1 (omega arith)) in
        let none : G - 30 ≡ 0 = omega arith in
        sym (ap₂ (λ (x y : ℕ). bit_xor (looked_up sums W r x f) (word_byte sums 3 y (byte_at W (r * 4 + 3)) f)) words none ∙ xor_zero_r (looked_up sums W r G f))

-- there are no rows from m on
rows_end : (S : List ℕ) (q : ℕ → ℕ) (m k f : ℕ) → length S ≡ m * chunk → xor_sum (m + k) (λ i. q i * cell_at S i f) ≡ xor_sum m (λ i. q i * cell_at S i f)
rows_end S q m k f long =
    sum_past m k (λ i. q i * cell_at S i f)
    (λ s.
    let past : length S ≤ (m + s) * chunk + f = omega arith in
    ap (λ (y : ℕ). q (m + s) * y) (get_or-eq_default S 0 past) ∙ mul-zero (q (m + s)))

-- what the words of plane p choose, added
pub chosen-sum : (S : List ℕ) (χ : ℕ → ℕ) (m : ℕ) (sums W : List ℕ) (G r p f : ℕ) → Weighed S χ m sums W G r → p < 8 → f < chunk
    → looked_up sums W (r + p) G f ≡ xor_sum m (λ i. bit_of (χ i) p * cell_at S i f)
chosen-sum S χ m sums W G r p f (tabled, long, most, small, chosen) hp hf =
    let whole : G * 5 ≡ m + (G * 5 - m) = omega arith in
    sum_same G _ (λ g. xor_sum 5 (λ s. bit_of (χ (g * 5 + s)) p * cell_at S (g * 5 + s) f))
    (λ g hg.
    ap (λ (x : ℕ). cell_at sums (g * 32 + x) f) (chosen p g hp hg) ∙ tabled (g * 32 + choice χ p g) f (omega (arith, choice_lt χ p g)) hf ∙ entry-chosen S χ p g f)
    ∙ sum-blocks G 5 (λ i. bit_of (χ i) p * cell_at S i f) ∙ ap (λ (n : ℕ). xor_sum n (λ i. bit_of (χ i) p * cell_at S i f)) whole
    ∙ rows_end S (λ i. bit_of (χ i) p) m (G * 5 - m) f long
