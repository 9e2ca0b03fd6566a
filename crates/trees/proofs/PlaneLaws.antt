-- A step of a loop over the planes: the planes below p are done, those from p on are as they were, and plane p is
-- changed now.
-- Assumes nothing.
use Prim.Native.Nat.{ℕ, ◌+◌, ◌*◌, ◌≤◌, ◌<◌}
use mathlib.Core.Path.{◌≡◌, ap, ◌∙◌}
use mathlib.Core.List.{List}
use mathlib.Core.Logic.{⊎_elim}
use native.Mathlib.Nat.{eq-or-lt_of_le, le_of_suc-le-suc}
use native.Mathlib.Numerals.{add-one}
use native.Mathlib.Omega.{arith}
use Rattle.strings.specs.Sums.{byte_at}

-- g q b x: what byte b of row q becomes, from x
abbrev pub Done : (ℕ → ℕ → ℕ → ℕ) → List ℕ → List ℕ → ℕ → ℕ → Type 0
Done g l₀ l w p = (q b : ℕ) → q < p → b < w → byte_at l (q * w + b) ≡ g q b (byte_at l₀ (q * w + b))

abbrev pub Left : List ℕ → List ℕ → ℕ → ℕ → Type 0
Left l₀ l w p = (q b : ℕ) → p ≤ q → b < w → byte_at l (q * w + b) ≡ byte_at l₀ (q * w + b)

module _ (g : ℕ → ℕ → ℕ → ℕ) (l₀ l l' : List ℕ) (w p : ℕ)
    (row : (b : ℕ) → b < w → byte_at l' (p * w + b) ≡ g p b (byte_at l (p * w + b)))
    (others : (q b : ℕ) → (q ≡ p → ⊥) → b < w → byte_at l' (q * w + b) ≡ byte_at l (q * w + b))
    (left : Left l₀ l w p) where
  pub done_more : Done g l₀ l w p → Done g l₀ l' w (p + 1)
  done_more done q b hq hb =
      ⊎_elim (λ (e : q ≡ p). rw e (row b hb ∙ ap (g p b) (left p b (omega arith) hb)))
      (λ (h : q < p). others q b (λ e. omega arith) hb ∙ done q b h hb)
      (eq-or-lt_of_le (le_of_suc-le-suc (rw add-one at hq)))

  pub left_less : Left l₀ l' w (p + 1)
  left_less q b hq hb = others q b (λ e. omega arith) hb ∙ left q b (omega arith) hb
