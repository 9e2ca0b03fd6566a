-- `forms_pieces::add_forms` meets its contract. The invariant: of each panel, as many sixteens of rows are
-- added as the walk over the pieces has passed. What all of them come to is `FoldLaws`.
-- Assumes nothing.
use borrow.Author.Rules.{rules}
use Prim.Native.Nat.{ℕ, ◌+◌, ◌*◌, ◌-◌, ◌/◌, ◌%◌, ◌≤◌, ◌<◌}
use mathlib.Core.List.{List}
use mathlib.Core.Bool.{Bool, true, false}
use mathlib.Core.Path.{◌≡◌, refl, sym, ap, ap₂, ◌∙◌}
use native.Mathlib.Nat.{mul-le-mul_right}
use native.Mathlib.Omega.{arith}
use lib.Bits.{bit_xor, xor_zero_r}
use Rattle.strings.specs.Sums.{byte_at, xor_sum}
use Rattle.chunks.specs.Chunks.{chunk}
use Rattle.forms_choices.specs.Entries.{IsBytes, ChosenAll}
use Rattle.forms_folds.specs.Folds.{Folded, FoldedSet}
use Rattle.forms_columns.specs.Stacks.{byte_product, column_of, coordinate_of}
use Rattle.forms_batching.specs.Batched.{rows_sum}
use Rattle.forms_pieces.specs.FormSums.{left_sum}
use Rattle.forms_batching.specs.Lines.{line_bit, line_sum}
use Rattle.forms_pieces.specs.Pieces.{panels_of, piece_end, Walked}
use Rattle.forms_pieces.proofs.FoldLaws.{form_is, polar_is}
use Rattle.forms_pieces.proofs.PanelLaws.{part_term, quad_is, mid_is, term_parts, terms_none, terms_all}
use Rattle.forms_pieces.proofs.LeftLaws.{Added, left-none, added_start, added-end, lines-added, both_halves}
use Rattle.forms_pieces.proofs.PieceLaws.{least_of, piece_of, rows-height, end_bounds, end_under, walk_start, walk_end, back_walked, walked_here, sum_walked, next_walked, next-walk, next-inside, next_less, next_held, part-folded, lines_walked}
use Rattle.forms_pieces.proofs.add_forms.Invariants.{Held, midTerm, quadTerm}
use Rattle.forms_pieces.proofs.add_forms.Goals as goal

-- where the polar form is not asked for, what would be added is 0
all-added : (asked : Bool) (w size m : ℕ) (A xs L₀ L : List ℕ) (i c : ℕ) → (asked ≡ true → Added w size m A (byte_at xs) L₀ L i c) → (asked ≡ false → L ≡ L₀) → (asked ≡ false → (k : ℕ) → byte_at xs k ≡ 0) → Added w size m A (byte_at xs) L₀ L i c
all-added true w size m A xs L₀ L i c on off none = on refl
all-added false w size m A xs L₀ L i c on off none =
    ap (λ l. line_bit l m i c) (off refl) ∙ sym (ap (bit_xor (line_bit L₀ m i c)) (left-none w size A (byte_at xs) i c (none refl)) ∙ xor_zero_r _)

pub widen-requires : goal.widen-requires
widen-requires c = (omega (arith, c.requires.12), c.requires.13)

pub loop-place-init : goal.loop-place-init
loop-place-init c =
    let a = c.args in
    let pre = c.requires in
    let A = a.a.now in
    let vs = a.vectors.now in (
      (refl, refl, omega arith),
      (λ some. end_under a.s.n 0 0 (omega arith) (omega (arith, some))),
      omega arith,
      pre.0,
      refl,
      refl,
      refl,
      refl,
      (λ later. absurd (later refl)),
      (λ R walked χ e small chosen he.
          terms_none a.s.degree a.s.n a.s.width a.s.m A χ e (panels_of a.s.n) (byte_at a.quad.now e) (coordinate_of vs e) (coordinate_of vs e) R (walk_start a.s.n R walked)),
      (λ R walked χ e small chosen he.
          terms_none a.s.degree a.s.n a.s.width a.s.m A χ e (panels_of a.s.n) (byte_at a.mid.now e) (byte_at a.xs.now) (coordinate_of vs e) R (walk_start a.s.n R walked)),
      (λ on R walked i k hi hk.
          let none : R (k / 16) ≡ 0 = walk_start a.s.n R walked (k / 16) (omega arith) in
          rw none (added_start a.s.width (a.s.n * a.s.width) A (byte_at a.xs.now) i a.s.m a.lines.now k)),
      (λ off. refl),
    )

pub piece-piece-requires : goal.piece-piece-requires
piece-piece-requires c = (c.loop-place.invariant.0.2, c.loop-place-test.true, c.requires.4)

pub load-requires : goal.load-requires
load-requires c =
    let a = c.args in
    let pre = c.requires in
    let l = c.loop-place in
    let at = c.piece-piece.ensures in
    record {
      piece_of = (
        piece_of a.s.n a.s.width l.place.first l.place.top c.piece-piece.result at l.invariant.0 c.loop-place-test.true pre.3 pre.4,
        pre.6,
        pre.2,
        omega (arith, pre.17, pre.6, l.invariant.7),
        omega (arith, l.invariant.4),
      );
      folded_set = λ later. rw (at.0, at.1, at.3) (l.invariant.8 later);
    }

pub panel-held-requires : goal.panel-held-requires
panel-held-requires c =
    let a = c.args in
    let pre = c.requires in
    let l = c.loop-place in
    let at = c.piece-piece.ensures in
    let inside = l.invariant.1 c.loop-place-test.true in
    let piece = piece_of a.s.n a.s.width l.place.first l.place.top c.piece-piece.result at l.invariant.0 c.loop-place-test.true pre.3 pre.4 in
    let fits = piece.4 in (
      omega (arith, fits.0, fits.2),
      fits.3,
      omega (arith, inside, end_bounds a.s.n l.place.first),
      fits.6 l.place.p (omega (arith, inside, at.1, at.2, l.invariant.0.2)),
      pre.6,
      omega (arith, pre.17, pre.6, l.invariant.7, c.load.auto.cells),
    )

pub overflow_add-piece : goal.overflow_add-piece
overflow_add-piece c = omega (arith, c.loop-place.invariant.1 c.loop-place-test.true, end_bounds c.args.s.n c.loop-place.place.first, c.requires.4, c.piece-piece.ensures.1)

pub overflow_add-piece-in-loop-place : goal.overflow_add-piece-in-loop-place
overflow_add-piece-in-loop-place c = omega (arith, c.loop-place.invariant.1 c.loop-place-test.true, end_bounds c.args.s.n c.loop-place.place.first, c.requires.4, c.piece-piece.ensures.1)

pub overflow_add-panel : goal.overflow_add-panel
overflow_add-panel c = omega (arith, c.loop-place.invariant.1 c.loop-place-test.true, end_bounds c.args.s.n c.loop-place.place.first, c.requires.4)

pub add_left-requires : goal.add_left-requires
add_left-requires c =
    let a = c.args in
    let pre = c.requires in
    let l = c.loop-place in
    let at = c.piece-piece.ensures in
    let inside = l.invariant.1 c.loop-place-test.true in
    let least = least_of (c.piece-piece.result.first + l.place.p + 1) c.piece-piece.result.count c.min-rows.result c.min-rows.ensures in
    let held = c.panel-held.ensures.0 in
    let tall = rows-height c.piece-piece.result.first c.piece-piece.result.count l.place.p c.min-rows.result least.0 least.1 in (
      omega (arith, pre.16, l.invariant.6),
      omega (arith, pre.6, l.invariant.4, c.load.auto.room),
      omega (arith, held, mul-le-mul_right (a.s.m * chunk) tall),
      pre.6,
      omega (arith, inside, end_bounds a.s.n l.place.first, pre.4),
      omega (arith, inside, end_bounds a.s.n l.place.first, pre.4, least.0, at.1, l.invariant.0.2),
    )

pub stack_part-requires : goal.stack_part-requires
stack_part-requires c =
    let a = c.args in
    let pre = c.requires in
    let l = c.loop-place in
    let at = c.piece-piece.ensures in
    let inside = l.invariant.1 c.loop-place-test.true in
    let least = least_of (c.piece-piece.result.first + l.place.p + 1) c.piece-piece.result.count c.min-rows.result c.min-rows.ensures in
    let held = c.panel-held.ensures.0 in
    let tall = rows-height c.piece-piece.result.first c.piece-piece.result.count l.place.p c.min-rows.result least.0 least.1 in (
      omega (arith, pre.8, l.invariant.5),
      c.add_left.auto.sums ∙ c.load.auto.room ∙ l.invariant.4,
      omega (arith, held, mul-le-mul_right (a.s.m * chunk) tall),
      omega (arith, inside, end_bounds a.s.n l.place.first, pre.4, least.0, at.1, l.invariant.0.2),
      pre.5,
      pre.6,
      pre.7,
      pre.8,
      pre.9,
      pre.10,
      omega (arith, pre.8, pre.11),
    )

pub finish-requires : goal.finish-requires
finish-requires c =
    let a = c.args in
    let pre = c.requires in
    let l = c.loop-place in
    let inside = l.invariant.1 c.loop-place-test.true in (
      pre.8,
      omega (arith, pre.8, l.invariant.5, c.stack_part.auto.stacks),
      pre.11,
      omega (arith, inside, end_bounds a.s.n l.place.first, pre.4),
      omega (arith, pre.12),
      pre.13,
    )

pub next-place-requires : goal.next-place-requires
next-place-requires c =
    let a = c.args in
    let pre = c.requires in
    let l = c.loop-place in
    let at = c.piece-piece.ensures in
    let inside = l.invariant.1 c.loop-place-test.true in
    let bounds = end_bounds a.s.n l.place.first in
    let fits = (piece_of a.s.n a.s.width l.place.first l.place.top c.piece-piece.result at l.invariant.0 c.loop-place-test.true pre.3 pre.4).4 in (
      omega (arith, inside, bounds, pre.4),
      omega (arith, inside, bounds),
      omega (arith, at.0, l.invariant.0.2, inside, bounds, pre.4),
      omega (arith, fits.2),
      omega (arith, fits.3),
    )

pub loop-place-smaller : goal.loop-place-smaller
loop-place-smaller c =
    let a = c.args in
    let l = c.loop-place in
    let some = c.loop-place-test.true in
    next_less a.s.n l.place.first l.place.top l.place.p c.piece-piece.result c.next-place.result c.piece-piece.ensures c.next-place.ensures (omega (arith, l.invariant.0)) l.invariant.0.2 (l.invariant.1 some) (omega (arith, some, c.requires.4))

pub loop-place-preserved : goal.loop-place-preserved
loop-place-preserved c =
    let a = c.args in
    let pre = c.requires in
    let l = c.loop-place in
    let some = c.loop-place-test.true in
    let piece = c.piece-piece.result in
    let at = c.piece-piece.ensures in
    let r = c.next-place.result in
    let next = c.next-place.ensures in
    let inside = l.invariant.1 some in
    let least = least_of (c.piece-piece.result.first + l.place.p + 1) c.piece-piece.result.count c.min-rows.result c.min-rows.ensures in
    let rows = c.min-rows.result in
    let held = c.panel-held.result.now in
    let left = c.add_left in
    let stacked = c.stack_part in
    let done = c.finish in
    let d = a.s.degree in
    let n = a.s.n in
    let w = a.s.width in
    let m = a.s.m in
    let A = a.a.now in
    let vs = a.vectors.now in
    let xs = a.xs.now in
    let J = l.place.first + l.place.p in
    let even : (l.place.first - l.place.top) % 2 ≡ 0 = omega (arith, l.invariant.0) in
    let few : l.place.p < 4 = omega (arith, inside, end_bounds n l.place.first) in
    let panel : J < panels_of n = omega (arith, inside, end_bounds n l.place.first) in
    let place : l.place.top + (piece.first + l.place.p) ≡ J = omega (arith, at.1, l.invariant.0.2) in
    let from : l.place.first ≡ piece.first + l.place.top = omega (arith, at.1, l.invariant.0.2) in
    let bottom : piece_end n l.place.first l.place.top ≡ l.place.top + piece.count = omega (arith, at.3) in
    let loaded : FoldedSet n w m A l.place.top piece.first piece.count c.load.new.cells = rw at.0 at c.load.ensures in
    let folded : Folded n w m A l.place.top (piece.first + l.place.p) piece.count held = c.panel-held.ensures.1 n w l.place.top A loaded in
    let above : rows ≤ piece.first + l.place.p + 1 = least.0 in
    let column : (χ : ℕ → ℕ → ℕ) (e : ℕ) → IsBytes χ → ChosenAll χ m a.s.tau a.words.now → e < a.s.tau → (s : ℕ) → s < 16 → J * 16 + s < n
    → column_of d stacked.new.stacks e s ≡ rows_sum d w (n * w) m A χ e (coordinate_of vs e) l.place.top rows (J * 16 + s) =
    λ χ e small chosen he s hs col.
    rw place at (stacked.ensures A χ n w (piece.first + l.place.p) piece.count e s folded least.1 above small chosen pre.18 pre.19 he hs (omega (arith, col, place))) in
    let before : (R : ℕ → ℕ) → Walked n r.first r.top r.p R → Walked n l.place.first l.place.top (l.place.p + 1) R =
    next_walked n l.place.first l.place.top l.place.p piece r at next even l.invariant.0.2 inside in
    let here : (R : ℕ → ℕ) → Walked n l.place.first l.place.top (l.place.p + 1) R → R J ≡ l.place.top + rows =
    λ R walked. walked_here n l.place.first l.place.top l.place.p R walked few piece.first piece.count rows from bottom panel above least.1 least.2 in (
      next-walk n l.place.first l.place.top l.place.p piece r at next even l.invariant.0.2 inside l.invariant.0.0 l.invariant.0.1,
      (next-inside n l.place.first l.place.top l.place.p piece r at next even l.invariant.0.2 inside some).0,
      (next-inside n l.place.first l.place.top l.place.p piece r at next even l.invariant.0.2 inside some).1,
      search rules,
      stacked.auto.sums ∙ left.auto.sums ∙ c.load.auto.room ∙ l.invariant.4,
      stacked.auto.stacks ∙ l.invariant.5,
      left.auto.lines ∙ l.invariant.6,
      c.load.auto.cells ∙ l.invariant.7,
      next_held n l.place.first l.place.top l.place.p piece r at next even l.invariant.0.2 inside (Held n w m A c.load.new.cells) (rw (at.1, at.3) at loaded),
      (λ R walked χ e small chosen he.
          let was = before R walked in
          sum_walked n l.place.first l.place.top l.place.p R was few (quadTerm d n w m A vs χ e) rows (part_term d n w m A χ e (coordinate_of vs e) (coordinate_of vs e) l.place.top rows J) (byte_at a.quad.now e) (byte_at l.quad e) (byte_at done.new.quad e) panel (here R was)
          (term_parts d n w m A χ e (coordinate_of vs e) (coordinate_of vs e) l.place.top rows J)
          (l.invariant.9 _ (back_walked n l.place.first l.place.top l.place.p R was few) χ e small chosen he)
          (done.ensures.lanes_added e he ∙ ap (bit_xor (byte_at l.quad e)) (quad_is d n w m A χ e (coordinate_of vs e) l.place.top rows J (column_of d stacked.new.stacks e) (column χ e small chosen he) (coordinate_of vs e) (λ k past low. pre.18 e k he past (omega (arith, low, panel, pre.4)))))),
      (λ R walked χ e small chosen he.
          let was = before R walked in
          sum_walked n l.place.first l.place.top l.place.p R was few (midTerm d n w m A vs xs χ e) rows (part_term d n w m A χ e (byte_at xs) (coordinate_of vs e) l.place.top rows J) (byte_at a.mid.now e) (byte_at l.mid e) (byte_at done.new.mid e) panel (here R was)
          (term_parts d n w m A χ e (byte_at xs) (coordinate_of vs e) l.place.top rows J)
          (l.invariant.10 _ (back_walked n l.place.first l.place.top l.place.p R was few) χ e small chosen he)
          (mid_is d n w m A χ e (coordinate_of vs e) l.place.top rows J (column_of d stacked.new.stacks e) (column χ e small chosen he) a.s.polar xs l.mid done.new.mid pre.13 pre.14 pre.15 (λ on. done.ensures.lanes_added_2 on e he) done.ensures.mid_unchanged)),
      (λ on R walked.
          let was = before R walked in
          lines_walked n w m A (byte_at xs) l.place.first l.place.top l.place.p rows R was few held a.lines.now l.lines left.new.lines
          (part-folded n w m A l.place.top J (piece.first + l.place.p) piece.count rows held folded least.1 above place) pre.14
          (λ i h z hi hh hz. left.ensures.left_added on (byte_at xs) i h z pre.13 c.widen.ensures hi hh hz) left.ensures.lines_beside (here R was)
          (l.invariant.11 on _ (back_walked n l.place.first l.place.top l.place.p R was few))),
      (λ off. left.ensures.lines_unchanged off ∙ l.invariant.12 off),
    )

pub add_lines-requires : goal.add_lines-requires
add_lines-requires c =
    let pre = c.requires in
    let l = c.loop-place in
    (l.invariant.4, omega (arith, pre.16, l.invariant.6), pre.4, pre.6, pre.8, pre.9, pre.10, omega (arith, pre.8, pre.11), pre.18)

pub returns : goal.returns
returns c =
    let a = c.args in
    let pre = c.requires in
    let l = c.loop-place in
    let d = a.s.degree in
    let n = a.s.n in
    let w = a.s.width in
    let m = a.s.m in
    let A = a.a.now in
    let vs = a.vectors.now in
    let x = byte_at a.xs.now in
    let L = a.lines.now in
    let N = panels_of n in
    let all : Walked n l.place.first l.place.top l.place.p (λ J. J + 1) = walk_end n l.place.first l.place.top l.place.p (omega arith) in
    let enough : n ≤ N * 16 = omega arith in
    let gone : (e : ℕ) → e < a.s.tau → (k : ℕ) → n ≤ k → k < N * 16 → coordinate_of vs e k ≡ 0 = λ e he k past low. pre.18 e k he past (omega (arith, low, pre.4)) in
    let none : (k : ℕ) → n ≤ k → k < N * 16 → x k ≡ 0 = λ k past low. pre.14 k past in
    let added : (i k : ℕ) → i < m → k < n → Added w (n * w) m A x L l.lines i k =
    λ i k hi hk. all-added a.s.polar w (n * w) m A a.xs.now L l.lines i k (λ on. added-end w (n * w) A x i m L l.lines k (k / 16 + 1) refl (l.invariant.11 on (λ J. J + 1) all i k hi hk)) l.invariant.12 pre.15 in record {
      by_index = (λ χ e small chosen he.
          let y : ℕ → ℕ = coordinate_of vs e in
          l.invariant.9 (λ J. J + 1) all χ e small chosen he ∙ ap (bit_xor (byte_at a.quad.now e)) (terms_all d n w m A χ e N y y ∙ form_is d N n w m A χ e enough y (gone e he)));
      by_index_2 = (λ χ e small chosen he.
          let y : ℕ → ℕ = coordinate_of vs e in
          let columns = xor_sum N (λ J. xor_sum 16 (λ s. byte_product d (x (J * 16 + s)) (left_sum d w (n * w) m A χ e y J (J * 16 + s)))) in
          let given = xor_sum n (λ k. byte_product d (y k) (line_sum L m χ e k)) in
          let added-left = xor_sum N (λ J. xor_sum 16 (λ s. byte_product d (y (J * 16 + s)) (left_sum d w (n * w) m A χ e x J (J * 16 + s)))) in
          c.add_lines.ensures χ e small chosen he
          ∙ ap₂ bit_xor (l.invariant.10 (λ J. J + 1) all χ e small chosen he ∙ ap (bit_xor (byte_at a.mid.now e)) (terms_all d n w m A χ e N x y))
          (lines-added d w (n * w) m A χ e x pre.13 N n enough y (gone e he) L l.lines added)
          ∙ both_halves (byte_at a.mid.now e) given added-left columns
          ∙ ap (λ (v : ℕ). bit_xor (bit_xor (byte_at a.mid.now e) v) given) (polar_is d N n w m A χ e enough y (gone e he) x none));
    }
