-- The sections that the batching step writes, from what the kernels ensure.
-- Assumes nothing.
use mathlib.Core.Path.{◌≡◌, ◌∙◌}
use mathlib.Core.List.{List}
use Prim.Native.Nat.{ℕ, ◌*◌, ◌≤◌, ◌<◌}
use native.Mathlib.Omega.{arith}
use lib.ListN.{length, take}
use lib.Bits.{bit_xor}
use Rattle.protocol.specs.Strings.{bit}
use Rattle.protocol.specs.Setting.{Setting, alphabet_of}
use Rattle.protocol.specs.Shape.{Shape, mask_at, per_tree, k_of, l_of, w_of}
use Rattle.protocol.specs.Key.{section_a, section_b}
use Rattle.protocol.specs.Prover.{v, qs0, qs1, qs0_section, qs1_section}
use Rattle.strings.specs.Sums.{byte_at}
use Rattle.tables.specs.Sums.{TableIs}
use Rattle.tables.proofs.SumsMeaning.{byte_of, table_v}
use Rattle.prover_sections.proofs.SumSections.{IsU}
use Rattle.format.proofs.FitLaws.{in_width}
use Rattle.lanes.specs.Lanes.{lane_at, mask_lane, mask_bits}
use Rattle.forms.specs.Batch.{forms_byte, middles_byte}
use Rattle.forms.proofs.FormsMeaning.{qs0_is, qs1_is}
use Rattle.strings.proofs.TableLaws.{prefix_table}

module _ (g : Setting) (s : Shape) (leaves key χ tab out : List ℕ) (is : TableIs tab leaves s.τ (w_of (alphabet_of g) s) (per_tree (alphabet_of g))) (long : s.τ ≤ length out)
    (vs : ℕ → ℕ → ℕ) (same : (e c : ℕ) → e < s.τ → c < s.n → vs e c ≡ lane_at tab c e) where
  -- a hashed coordinate is in a leaf
  inside : (c : ℕ) → c < k_of (alphabet_of g) s → c < 8 * w_of (alphabet_of g) s
  unfolding l_of
  inside c h = in_width g s c (omega arith)

  -- and so is one of a vector
  below : (c : ℕ) → c < s.n → c < k_of (alphabet_of g) s
  unfolding k_of
  below c h = omega arith

  lane-is : (e : ℕ) → e < s.τ → (c : ℕ) → c < k_of (alphabet_of g) s → lane_at tab c e ≡ byte_of g (v (alphabet_of g) s leaves e c)
  lane-is e l c h = table_v g s leaves e c tab s.τ is l (inside c h)

  front : (e : ℕ) → e < s.τ → (c : ℕ) → c < s.n → vs e c ≡ byte_of g (v (alphabet_of g) s leaves e c)
  front e l c h = same e c l h ∙ lane-is e l c (below c h)

  pub qs0_are : ((e : ℕ) → e < s.τ → byte_at out e ≡ bit_xor (mask_lane g.degree tab (mask_at (alphabet_of g) s e) e) (forms_byte g.degree s.n s.m (section_a (alphabet_of g) s key) χ e (vs e)))
      → take s.τ out ≡ qs0_section (alphabet_of g) s leaves key χ
  unfolding qs0_section
  qs0_are at =
      prefix_table out s.τ (λ e. byte_of g (qs0 (alphabet_of g) s leaves key χ e)) long
      (λ e l. at e l ∙ qs0_is g.degree s leaves key χ tab e l (lane-is e l) (vs e) (front e l))

  pub qs1_are : (x us : List ℕ) → IsU g s leaves us
      → ((e : ℕ) → e < s.τ → byte_at out e ≡ bit_xor (mask_bits g.degree us (mask_at (alphabet_of g) s e)) (middles_byte g.degree s.n s.m (section_a (alphabet_of g) s key) (section_b (alphabet_of g) s key) (bit x) χ e (vs e)))
      → take s.τ out ≡ qs1_section (alphabet_of g) s leaves key x χ
  unfolding qs1_section
  qs1_are x us bits at =
      prefix_table out s.τ (λ e. byte_of g (qs1 (alphabet_of g) s leaves key x χ e)) long
      (λ e l. at e l ∙ qs1_is g.degree s leaves key χ tab e l (lane-is e l) (vs e) (front e l) x us (λ c h. bits c (inside c h)))
