-- The sections that the hash step writes, from what the kernels ensure.
-- Assumes nothing.
use mathlib.Core.Path.{◌≡◌, sym, ◌∙◌}
use mathlib.Core.List.{List}
use Prim.Native.Nat.{ℕ, ◌+◌, ◌*◌, ◌≤◌, ◌<◌}
use native.Mathlib.Omega.{arith}
use lib.ListN.{length, take}
use lib.Seq.{get_or-take}
use Rattle.protocol.specs.Lists.{table}
use Rattle.protocol.specs.Strings.{bytes_for}
use Rattle.protocol.specs.Setting.{Setting, alphabet_of}
use Rattle.protocol.specs.Shape.{Shape, per_tree, k_of, w_of}
use Rattle.protocol.specs.Forms.{hash}
use Rattle.protocol.specs.Prover.{v, ṼSection}
use Rattle.theorems.proofs.ListLaws.{row-end, length-table, table_at}
use Rattle.strings.specs.Sums.{byte_at}
use Rattle.lanes.specs.Lanes.{lanes}
use Rattle.tables.specs.Sums.{TableIs}
use Rattle.tables.proofs.SumsMeaning.{byte_of, table_v}
use Rattle.format.proofs.FitLaws.{in_width}
use Rattle.hash.specs.Hashed.{hash_lane}
use Rattle.questions.specs.Facts.{HashForm}
use Rattle.strings.proofs.TableLaws.{rows-table}
use Rattle.hash.proofs.HashMeaning.{hash_lane_is}

pub hashed_are : (g : Setting) (s : Shape) (leaves H' tab out : List ℕ) → HashForm (alphabet_of g) s H' → TableIs tab leaves s.τ (w_of (alphabet_of g) s) (per_tree (alphabet_of g)) → length out ≡ s.τ * s.t
    → ((e r : ℕ) → e < s.τ → r < s.t → byte_at out (e * s.t + r) ≡ hash_lane H' (bytes_for (k_of (alphabet_of g) s)) (k_of (alphabet_of g) s) tab r e)
    → out ≡ ṼSection (alphabet_of g) s leaves H'
unfolding ṼSection
hashed_are g s leaves H' tab out f is long at =
    rows-table out s.τ s.t (λ e. table s.t (λ ρ. byte_of g (hash (alphabet_of g) s H' ρ (v (alphabet_of g) s leaves e)))) long (λ e l. length-table s.t _)
    (λ e ρ le l.
    at e ρ le l
    ∙ hash_lane_is g s H' tab (v (alphabet_of g) s leaves e) ρ e f.hash-exact f.hash-spare l (λ c h. table_v g s leaves e c tab s.τ is le (in_width g s c h))
    ∙ sym (table_at s.t (λ ρ. byte_of g (hash (alphabet_of g) s H' ρ (v (alphabet_of g) s leaves e))) 0 ρ l))

-- what a table holds, its first part holds, as far as the table goes
pub table_less : (tab leaves : List ℕ) (τ w count : ℕ) → τ ≤ lanes → TableIs tab leaves τ w count → TableIs (take (8 * w * lanes) tab) leaves τ w count
table_less tab leaves τ w count few is e c l h = get_or-take (8 * w * lanes) tab (c * lanes + e) 0 (omega (arith, row-end c (8 * w) lanes h)) ∙ is e c l h
