-- `forms_columns::add_columns` meets its contract. The invariant: the columns below z are added.
-- Assumes nothing.
use Prim.Native.Nat.{ℕ, ◌+◌, ◌*◌}
use mathlib.Core.List.{List}
use mathlib.Core.Bool.{true, false}
use mathlib.Core.Path.{◌≡◌}
use Rattle.strings.specs.Sums.{byte_at, xor_sum}
use Rattle.lanes.specs.Lanes.{lanes, lane_at, LanesAdded}
use Rattle.forms_columns.specs.Stacks.{byte_product, value_of}
use Rattle.forms_columns.proofs.add_columns.Given as goal

-- what column z adds
abbrev pub quadTerm : ℕ → List ℕ → List ℕ → ℕ → ℕ → ℕ → ℕ
quadTerm d rows front h e z = byte_product d (lane_at front (h * 8 + z) e) (value_of d rows z e)

abbrev pub midTerm : ℕ → List ℕ → List ℕ → ℕ → ℕ → ℕ → ℕ
midTerm d rows xs h e z = byte_at xs (h * 8 + z) * value_of d rows z e

abbrev pub invariant-loop-z : goal.invariant-loop-z
invariant-loop-z l = record {
  quad_added : LanesAdded lanes (λ e. xor_sum l.z (quadTerm l.degree l.rows l.front l.h e)) l.initial.quad l.quad;
  mid_added : l.polar ≡ true → LanesAdded lanes (λ e. xor_sum l.z (midTerm l.degree l.rows l.xs l.h e)) l.initial.mid l.mid;
  mid_unchanged : l.polar ≡ false → l.mid ≡ l.initial.mid;
}
