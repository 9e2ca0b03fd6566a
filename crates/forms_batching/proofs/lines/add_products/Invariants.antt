-- `forms_batching::lines::add_products` meets its contract. The invariant: the products of the repetitions below e are
-- added, and the other places are as they were.
-- Assumes nothing.
use Prim.Native.Nat.{ℕ, ◌*◌, ◌≤◌, ◌<◌}
use mathlib.Core.List.{List}
use mathlib.Core.Path.{◌≡◌}
use lib.Bits.{bit_xor}
use Rattle.strings.specs.Sums.{byte_at}
use Rattle.forms_choices.specs.Entries.{Weighed}
use Rattle.forms_batching.specs.Lines.{weighed_line, line_product}
use Rattle.forms_batching.proofs.lines.add_products.Given as goal

-- the batched line of repetition e times its vector
abbrev pub term : ℕ → List ℕ → (ℕ → ℕ → ℕ) → ℕ → List ℕ → ℕ → ℕ → ℕ → ℕ
term r S χ m vectors from count e = line_product r vectors e from count (weighed_line S (χ e) m)

abbrev pub invariant-loop-e : goal.invariant-loop-e
invariant-loop-e l = let mid₀ = l.initial.mid in let tau = l.tau in let words = l.words in let groups = l.groups in let sums = l.sums in let vectors = l.vectors in let from = l.from in let count = l.count in let degree = l.degree in let mid = l.mid in let e = l.e in ((S : List ℕ) (χ : ℕ → ℕ → ℕ) (m d : ℕ) → ((q : ℕ) → q < tau → Weighed S (χ q) m sums words groups (q * 8)) → d < e → byte_at mid d ≡ bit_xor (byte_at mid₀ d) (term degree S χ m vectors from count d)) × ((d : ℕ) → e ≤ d → byte_at mid d ≡ byte_at mid₀ d)
