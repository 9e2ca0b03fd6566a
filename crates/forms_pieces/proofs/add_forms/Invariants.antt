-- `forms_pieces::add_forms` meets its contract. The invariant: of each panel, as many sixteens of rows are
-- added as the walk over the pieces has passed. What all of them come to is `FoldLaws`.
-- Assumes nothing.
use Prim.Native.Nat.{ℕ, ◌+◌, ◌*◌, ◌-◌, ◌/◌, ◌<◌}
use mathlib.Core.List.{List}
use mathlib.Core.Bool.{true, false}
use mathlib.Core.Path.{◌≡◌}
use lib.ListN.{length}
use lib.Bits.{bit_xor}
use Rattle.strings.specs.Sums.{byte_at, xor_sum}
use Rattle.lanes.specs.Lanes.{lanes}
use Rattle.chunks.specs.Chunks.{chunk}
use Rattle.forms_choices.specs.Entries.{IsBytes, ChosenAll}
use Rattle.forms_folds.specs.Folds.{FoldedSet}
use Rattle.forms_columns.specs.Stacks.{planes, coordinate_of}
use Rattle.forms_batching.specs.Batched.{SumsRoom}
use Rattle.forms_pieces.specs.Pieces.{panels_of, end_of, rows_of, Walk, Walked}
use Rattle.forms_pieces.proofs.PanelLaws.{part_term}
use Rattle.forms_pieces.proofs.LeftLaws.{AddedUpTo}
use Rattle.forms_pieces.proofs.PieceLaws.{walk_measure}
use Rattle.forms_pieces.proofs.add_forms.Given as goal

-- what r sixteens of rows of panel J give: to the form, and to half of the polar form
abbrev pub quadTerm : ℕ → ℕ → ℕ → ℕ → List ℕ → List ℕ → (ℕ → ℕ → ℕ) → ℕ → ℕ → ℕ → ℕ
quadTerm d n w m A vs χ e r J = part_term d n w m A χ e (coordinate_of vs e) (coordinate_of vs e) 0 r J

abbrev pub midTerm : ℕ → ℕ → ℕ → ℕ → List ℕ → List ℕ → List ℕ → (ℕ → ℕ → ℕ) → ℕ → ℕ → ℕ → ℕ
midTerm d n w m A vs xs χ e r J = part_term d n w m A χ e (byte_at xs) (coordinate_of vs e) 0 r J

-- the place of the walk: what is loaded, and how far the panel's number goes
abbrev pub Held : ℕ → ℕ → ℕ → List ℕ → List ℕ → ℕ → ℕ → Type 0
Held n w m A cells first top = FoldedSet n w m A top (first - top) (rows_of (first - top) (end_of n first - top)) cells

abbrev pub invariant-loop-place : goal.invariant-loop-place
invariant-loop-place l = let n = l.s.n in let polar = l.s.polar in let first = l.place.first in let top = l.place.top in let p = l.place.p in Walk first top × (first * 16 < n → first + p < end_of n first) × (first * 16 < n + 64) × (length l.quad ≡ lanes) × SumsRoom l.sums
    × (length l.stacks ≡ lanes * (planes * chunk))
    × (length l.lines ≡ length l.initial.lines) × (length l.cells ≡ length l.initial.cells) × ((p ≡ 0 → ⊥) → Held n l.s.width l.s.m l.a l.cells first top)
    × ((R : ℕ → ℕ) → Walked n first top p R → (χ : ℕ → ℕ → ℕ) (e : ℕ) → IsBytes χ → ChosenAll χ l.s.m l.s.tau l.words → e < l.s.tau
    → byte_at l.quad e ≡ bit_xor (byte_at l.initial.quad e) (xor_sum (panels_of n) (λ J. quadTerm l.s.degree n l.s.width l.s.m l.a l.vectors χ e (R J) J)))
    × ((R : ℕ → ℕ) → Walked n first top p R → (χ : ℕ → ℕ → ℕ) (e : ℕ) → IsBytes χ → ChosenAll χ l.s.m l.s.tau l.words → e < l.s.tau
    → byte_at l.mid e ≡ bit_xor (byte_at l.initial.mid e) (xor_sum (panels_of n) (λ J. midTerm l.s.degree n l.s.width l.s.m l.a l.vectors l.xs χ e (R J) J)))
    × (polar ≡ true → (R : ℕ → ℕ) → Walked n first top p R → (i c : ℕ) → i < l.s.m → c < n → AddedUpTo l.s.width (n * l.s.width) l.s.m l.a (byte_at l.xs) l.initial.lines l.lines i c (R (c / 16)))
    × (polar ≡ false → l.lines ≡ l.initial.lines)

abbrev pub decreases-loop-place : goal.decreases-loop-place
decreases-loop-place l =
    walk_measure l.place.first l.place.top l.place.p
