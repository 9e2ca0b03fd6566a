-- A lane of the table written coordinate by coordinate, and byte by byte: what is done, and what is left as it was.
--   Filled g l e a n == lane e of the n coordinates from a on is g 0, .., g (n - 1);  Others l₀ l e a == the other
--     lanes, and lane e below a, are as in l₀
--   Lane g l e n == lane e of the first n coordinates is g
-- Assumes nothing.
use Prim.Native.Nat.{ℕ, ◌+◌, ◌*◌, ◌-◌, ◌/◌, ◌%◌, ◌≤◌, ◌<◌}
use mathlib.Core.Path.{◌≡◌, sym, ap, ◌∙◌}
use mathlib.Core.List.{List}
use mathlib.Core.Logic.{⊎_elim}
use native.Mathlib.Nat.{eq-or-lt_of_le, le_of_suc-le-suc}
use native.Mathlib.Decide.{dec_lt}
use native.Mathlib.Numerals.{add-one}
use native.Mathlib.Omega.{arith}
use lib.ListN.{length, set}
use lib.Seq.{get_or-set_same, get_or-set_other}
use Rattle.protocol.specs.Lists.{block_at}
use Rattle.protocol.specs.Strings.{bit}
use Rattle.strings.specs.Sums.{byte_at, bit_of}
use Rattle.strings.proofs.Rows.{row-byte}
use Rattle.strings.proofs.Meaning.{bit-place}
use Rattle.lanes.specs.Lanes.{lanes}

abbrev pub Filled : (ℕ → ℕ) → List ℕ → ℕ → ℕ → ℕ → Type 0
Filled g l e a n = (k : ℕ) → k < n → byte_at l ((a + k) * lanes + e) ≡ g k

abbrev pub Others : List ℕ → List ℕ → ℕ → ℕ → Type 0
Others l₀ l e a = (c q : ℕ) → q < lanes → (q ≡ e → c < a) → byte_at l (c * lanes + q) ≡ byte_at l₀ (c * lanes + q)

module _ (l : List ℕ) (e a i v : ℕ) (el : e < lanes) where
  pub filled_more : (g : ℕ → ℕ) → (a + i) * lanes + e < length l → v ≡ g i → Filled g l e a i → Filled g (set l ((a + i) * lanes + e) v) e a (i + 1)
  filled_more g fits is done k h =
      ⊎_elim
      (λ (eq : k ≡ i). rw eq (get_or-set_same l ((a + i) * lanes + e) v 0 fits ∙ is))
      (λ (lt : k < i). get_or-set_other l ((a + i) * lanes + e) ((a + k) * lanes + e) v 0 (λ x. omega arith) ∙ done k lt)
      (eq-or-lt_of_le (le_of_suc-le-suc (rw add-one at h)))

  pub others-still : (l₀ : List ℕ) → Others l₀ l e a → Others l₀ (set l ((a + i) * lanes + e) v) e a
  others-still l₀ same c q h k = get_or-set_other l ((a + i) * lanes + e) (c * lanes + q) v 0 other ∙ same c q h k
    where
      other : c * lanes + q ≡ (a + i) * lanes + e → ⊥
      other x = let eq : q ≡ e = omega arith in omega (arith, k eq)

abbrev pub Lane : (ℕ → ℕ) → List ℕ → ℕ → ℕ → Type 0
Lane g l e n = (c : ℕ) → c < n → byte_at l (c * lanes + e) ≡ g c

-- n coordinates more, from a on, where those below a are done
pub lane-part : (g : ℕ → ℕ) (l l' : List ℕ) (e a n m : ℕ) → e < lanes → a ≤ m → Filled (λ k. g (a + k)) l' e a n → Others l l' e a → Lane g l e m → Lane g l' e (a + n)
lane-part g l l' e a n m el le more same done c h = go (dec_lt c a)
  where
    go : Dec (c < a) → byte_at l' (c * lanes + e) ≡ g c
    go (yes lt) = same c e el (λ _. lt) ∙ done c (omega arith)
    go (no ge) =
        let x : a + (c - a) ≡ c = omega arith in
        rw x at (more (c - a) (omega arith))

pub lane_more : (g : ℕ → ℕ) (l l' : List ℕ) (e b : ℕ) → e < lanes → Filled (λ k. g (b * 8 + k)) l' e (b * 8) 8 → Others l l' e (b * 8) → Lane g l e (b * 8) → Lane g l' e ((b + 1) * 8)
lane_more g l l' e b el eight same done c h = lane-part g l l' e (b * 8) 8 (b * 8) el (omega arith) eight same done c (omega arith)

-- bit i of sixteen bytes of plane p, from `at` on
pub part-bit : (planes : List ℕ) (w at p i : ℕ) → at + 16 ≤ w → i < 128 → bit_of (byte_at planes (at + p * w + i / 8)) (i % 8) ≡ bit (block_at planes w p) (at * 8 + i)
part-bit planes w at p i fits lt =
    let place : at + p * w + i / 8 ≡ p * w + (at + i / 8) = omega arith in
    let number : (at + i / 8) * 8 + i % 8 ≡ at * 8 + i = omega arith in
    ap (λ k. bit_of (byte_at planes k) (i % 8)) place
    ∙ sym (bit-place (block_at planes w p) (at + i / 8) (i % 8) (omega arith) ∙ ap (λ x. bit_of x (i % 8)) (row-byte planes w p (at + i / 8) (omega arith)))
    ∙ ap (bit (block_at planes w p)) number
