-- Laws of the walk over the pieces: the cells hold each piece, and a panel of a piece adds rows to one panel only.
-- Assumes nothing.
use mathlib.Core.Path.{◌≡◌, refl, sym, ap, ◌∙◌}
use mathlib.Core.Bool.{cond}
use mathlib.Core.List.{List}
use Prim.Native.Nat.{ℕ, zero, suc, ◌+◌, ◌*◌, ◌-◌, ◌/◌, ◌%◌, ◌≤◌, ◌<◌}
use native.Mathlib.Nat.{one-mul}
use native.Mathlib.Decide.{dec_lt, ℕ_discrete}
use native.Mathlib.Omega.{arith}
use Rattle.std.proofs.Common.{min}
use lib.Bits.{bit_xor}
use lib.Dec.{ltb, eqb, lit<}
use Rattle.theorems.proofs.TestLaws.{ltb_yes, ltb_no, leb_yes, leb_no, eqb_same, eqb-other}
use Rattle.protocol.specs.Shape.{most_variables}
use Rattle.protocol.specs.Strings.{bytes_for}
use Rattle.protocol.specs.Lists.{block_at}
use Rattle.strings.specs.Sums.{bit_of, xor_sum}
use Rattle.strings.proofs.XorLaws.{xor_assoc}
use Rattle.strings.proofs.SumLaws.{sum_put}
use Rattle.forms_folds.specs.Folds.{folded_bit, before, height, piece_sixteens, cell_sixteens, most_panels, PieceFits, Folded}
use Rattle.forms_folds.specs.Sets.{PieceOf}
use Rattle.forms_folds.proofs.PlaceLaws.{before_tall, before_flat, height_tall, height_flat}
use Rattle.forms_folds.specs.declared.Piece.{Piece}
use Rattle.forms_pieces.specs.declared.Place.{Place}
use Rattle.forms_batching.specs.Lines.{line_byte, left_bit, LinesBeside}
use Rattle.forms_pieces.proofs.LeftLaws.{AddedUpTo, PartFolded, added_more, added_beside}
use Rattle.forms_pieces.specs.Pieces.{panels_of, end_of, short_piece, rows_of, piece_end, PieceAt, NextPlace, Walk, Walked}

-- the lesser of two numbers
pub least_of : (a b x : ℕ) → x ≡ min a b → (x ≤ a) × (x ≤ b) × (x < a → x ≡ b)
least_of a b x is = (omega (arith, is), omega (arith, is), λ h. omega (arith, is, h))

-- ---- the end of a set

module _ (n first : ℕ) where
  -- the least of two bounds
  pub end_is : (end : ℕ) → end ≤ first + 4 → end ≤ panels_of n → (end < first + 4 → end ≡ panels_of n) → end ≡ end_of n first
  unfolding end_of
  end_is end low high other = go (dec_lt (first + 4) (panels_of n)) (dec_lt end (first + 4))
    where
      go : Dec (first + 4 < panels_of n) → Dec (end < first + 4) → end ≡ cond (ltb (first + 4) (panels_of n)) (first + 4) (panels_of n)
      go (yes lt) (yes below) = absurd (omega (arith, other below))
      go (yes lt) (no above) = rw (ltb_yes (first + 4) (panels_of n) lt) (omega arith)
      go (no ge) (yes below) = rw (ltb_no (first + 4) (panels_of n) (omega arith)) (other below)
      go (no ge) (no above) = rw (ltb_no (first + 4) (panels_of n) (omega arith)) (omega arith)

  pub end_bounds : (end_of n first ≤ first + 4) × (end_of n first ≤ panels_of n)
  unfolding end_of
  end_bounds = go (dec_lt (first + 4) (panels_of n))
    where
      go : Dec (first + 4 < panels_of n) → (end_of n first ≤ first + 4) × (end_of n first ≤ panels_of n)
      go (yes lt) = rw (ltb_yes (first + 4) (panels_of n) lt) (omega arith, omega arith)
      go (no ge) = rw (ltb_no (first + 4) (panels_of n) (omega arith)) (omega arith, omega arith)

  pub end_under : (J : ℕ) → J < first + 4 → J < panels_of n → J < end_of n first
  unfolding end_of
  end_under J low high = go (dec_lt (first + 4) (panels_of n))
    where
      go : Dec (first + 4 < panels_of n) → J < end_of n first
      go (yes lt) = rw (ltb_yes (first + 4) (panels_of n) lt) low
      go (no ge) = rw (ltb_no (first + 4) (panels_of n) (omega arith)) high

-- ---- the rows of a piece

pub rows_whole : (first end : ℕ) → first ≤ 4 → rows_of first end ≡ end
unfolding rows_of
rows_whole first end h = rw (leb_yes first 4 h)

pub rows-eight : (first end : ℕ) → first ≡ 8 → end ≤ piece_sixteens → rows_of first end ≡ end
unfolding rows_of
rows-eight first end e h =
    let large : 4 < first = omega arith in
    rw (leb_no first 4 large, eqb_same first 8 e, leb_yes end piece_sixteens h)

pub rows_long : (first end : ℕ) → first ≡ 8 → piece_sixteens < end → rows_of first end ≡ short_piece
unfolding rows_of
rows_long first end e h =
    let large : 4 < first = omega arith in
    rw (leb_no first 4 large, eqb_same first 8 e, leb_no end piece_sixteens h)

pub rows_other : (first end : ℕ) → 4 < first → (first ≡ 8 → ⊥) → rows_of first end ≡ short_piece
unfolding rows_of
rows_other first end large other = rw (leb_no first 4 large, eqb-other first 8 other)

rows-cases : (first end : ℕ) (P : ℕ → Type 0) → (first ≤ 4 → P end) → (first ≡ 8 → end ≤ piece_sixteens → P end) → (4 < first → P short_piece) → P (rows_of first end)
rows-cases first end P whole eight short = go (dec_lt 4 first) (dec_lt first 8) (dec_lt 8 first) (dec_lt piece_sixteens end)
  where
    go : Dec (4 < first) → Dec (first < 8) → Dec (8 < first) → Dec (piece_sixteens < end) → P (rows_of first end)
    go (no le) b c d = let few : first ≤ 4 = omega arith in rw (rows_whole first end few) (whole few)
    go (yes lt) (yes b) c d = rw (rows_other first end lt (λ e. omega arith)) (short lt)
    go (yes lt) (no b) (yes c) d = rw (rows_other first end lt (λ e. omega arith)) (short lt)
    go (yes lt) (no b) (no c) (yes d) = let e : first ≡ 8 = omega arith in rw (rows_long first end e d) (short lt)
    go (yes lt) (no b) (no c) (no d) =
        let e : first ≡ 8 = omega arith in
        let few : end ≤ piece_sixteens = omega arith in
        rw (rows-eight first end e few) (eight e few)

-- the cells hold the panels
tall_fits : (first count p : ℕ) → first < count → first ≤ 4 → p < 4 → before first count p + height first count p ≤ cell_sixteens
tall_fits first count zero h few hp = omega (arith, before_tall first count 0 h (lit< tt), height_tall first count 0 h)
tall_fits first count (suc zero) h few hp = omega (arith, before_tall first count 1 h (lit< tt), height_tall first count 1 h)
tall_fits first count (suc (suc zero)) h few hp = omega (arith, before_tall first count 2 h (lit< tt), height_tall first count 2 h)
tall_fits first count (suc (suc (suc zero))) h few hp = omega (arith, before_tall first count 3 h (lit< tt), height_tall first count 3 h)
tall_fits first count (suc (suc (suc (suc p)))) h few hp = absurd (omega arith)

eight_fits : (first count p : ℕ) → first < count → first ≡ 8 → p < 2 → before first count p + height first count p ≤ cell_sixteens
eight_fits first count zero h few hp = omega (arith, before_tall first count 0 h (lit< tt), height_tall first count 0 h)
eight_fits first count (suc zero) h few hp = omega (arith, before_tall first count 1 h (lit< tt), height_tall first count 1 h)
eight_fits first count (suc (suc p)) h few hp = absurd (omega arith)

module _ (first end : ℕ) (even : first % 2 ≡ 0) (some : first < end) (most : end ≤ first + 4) where
  pub piece_fits : end ≤ most_panels → PieceFits first end (rows_of first end)
  piece_fits few =
      rows-cases first end (PieceFits first end)
      (λ low. (some, most, few, omega arith, omega arith, (λ long. absurd (omega arith)), λ p h. tall_fits first end p some low (omega arith)))
      (λ eight ten. (some, most, few, ten, omega arith, (λ long. ten), λ p h. eight_fits first end p some eight (omega arith)))
      (λ large. (
        some,
        most,
        few,
        omega arith,
        omega arith,
        (λ long. absurd (omega arith)),
        λ p h.
            let flat : short_piece ≤ first = omega arith in
            omega (arith, before_flat first short_piece p flat (omega arith), height_flat first short_piece p flat),
      ))

  -- a piece that is not the last of a set ends above its panels
  pub rows_next : (0 < rows_of first end) × (rows_of first end ≤ end) × (rows_of first end < end → (rows_of first end ≤ first) × (rows_of first end ≡ short_piece))
  rows_next =
      rows-cases first end (λ r. (0 < r) × (r ≤ end) × (r < end → (r ≤ first) × (r ≡ short_piece)))
      (λ low. (omega arith, omega arith, λ less. absurd (omega arith)))
      (λ eight ten. (omega arith, omega arith, λ less. absurd (omega arith)))
      (λ large. (omega arith, omega arith, λ less. (omega arith, refl)))

-- a piece, as it is loaded
pub piece_of : (n w first top : ℕ) (piece : Piece) → PieceAt n first top piece → Walk first top → first * 16 < n → w ≡ bytes_for n → n ≤ most_variables
    → PieceOf n w piece.top piece.first piece.end piece.count
piece_of n w first top piece at walk some wide few =
    let bounds = end_bounds n first in
    let under : first < end_of n first = end_under n first first (omega arith) (omega arith) in
    let even : (first - top) % 2 ≡ 0 = omega (arith, walk) in
    let inside : first - top < end_of n first - top = omega (arith, walk.2) in
    let most : end_of n first - top ≤ first - top + 4 = omega (arith, walk.2) in
    let panels : end_of n first ≤ most_panels = omega arith in
    rw (at.0, at.1, at.2, at.3) (
      wide,
      omega arith,
      omega (arith, walk.2),
      omega (arith, walk.2),
      piece_fits (first - top) (end_of n first - top) even inside most (omega arith),
      λ p hp more. omega (arith, walk.2, end_under n first (first + p) (omega arith) (omega (arith, walk.2))),
    )

-- as many rows as the panel has
pub rows-height : (first count p rows : ℕ) → rows ≤ first + p + 1 → rows ≤ count → rows ≤ height first count p
rows-height first count p rows low high = go (dec_lt first count)
  where
    go : Dec (first < count) → rows ≤ height first count p
    go (yes lt) = omega (arith, height_tall first count p lt)
    go (no ge) = omega (arith, height_flat first count p (omega arith))

-- ---- the walk

-- how far the walk has yet to go, at most
abbrev pub walk_measure : ℕ → ℕ → ℕ → ℕ
walk_measure first top p = 1024 - (first * 32 + top * 4 + p)

pub walk_start : (n : ℕ) (R : ℕ → ℕ) → Walked n 0 0 0 R → (J : ℕ) → J < panels_of n → R J ≡ 0
walk_start n R walked J h = go (dec_lt J 4)
  where
    go : Dec (J < 4) → R J ≡ 0
    go (yes lt) = (walked J h).3 (omega arith) (omega arith)
    go (no ge) = (walked J h).4 (omega arith)

pub walk_end : (n first top p : ℕ) → n ≤ first * 16 → Walked n first top p (λ J. J + 1)
walk_end n first top p all J h = ((λ lt. refl), (λ l r b. refl), (λ l r b. absurd (omega arith)), (λ l r. absurd (omega arith)), (λ l. absurd (omega arith)))

module _ (n first top p : ℕ) (R' : ℕ → ℕ) (walked : Walked n first top (p + 1) R') (few : p < 4) where
  -- the rows that were done before
  unfoldable pub back : ℕ → ℕ
  back J = cond (eqb J (first + p)) top (R' J)

  pub back-here : back (first + p) ≡ top
  unfolding back
  back-here = rw (eqb_same (first + p) (first + p) refl)

  pub back-other : (J : ℕ) → (J ≡ first + p → ⊥) → back J ≡ R' J
  unfolding back
  back-other J other = rw (eqb-other J (first + p) other)

  pub back_walked : Walked n first top p back
  back_walked J h = (
    (λ lt. back-other J (λ e. omega arith) ∙ (walked J h).0 lt),
    (λ l r b. back-other J (λ e. omega arith) ∙ (walked J h).1 l (omega arith) b),
    (λ l r b. back-other J (λ e. omega arith) ∙ (walked J h).2 l (omega arith) b),
    (λ l r. go (dec_lt (first + p) J) l r),
    (λ l. back-other J (λ e. omega arith) ∙ (walked J h).4 l),
  )
    where
      go : Dec (first + p < J) → first + p ≤ J → J < first + 4 → back J ≡ top
      go (yes lt) l r = back-other J (λ e. omega arith) ∙ (walked J h).3 (omega arith) r
      go (no ge) l r = let e : J ≡ first + p = omega arith in rw e back-here

  pub walked_here : (from count rows : ℕ) → first ≡ from + top → piece_end n first top ≡ top + count → first + p < panels_of n
      → rows ≤ from + p + 1 → rows ≤ count → (rows < from + p + 1 → rows ≡ count) → R' (first + p) ≡ top + rows
  walked_here from count rows at end inside low high other = go (dec_lt (first + p) (piece_end n first top)) (dec_lt rows (from + p + 1))
    where
      go : Dec (first + p < piece_end n first top) → Dec (rows < from + p + 1) → R' (first + p) ≡ top + rows
      go (yes lt) (yes less) = absurd (omega (arith, other less))
      go (yes lt) (no all) = (walked (first + p) inside).1 (omega arith) (omega arith) lt ∙ omega arith
      go (no ge) (yes less) = (walked (first + p) inside).2 (omega arith) (omega arith) (omega arith) ∙ end ∙ ap (λ r. top + r) (sym (other less))
      go (no ge) (no all) = absurd (omega arith)

  -- what R sixteens of rows of each panel give, where those of one panel were added
  pub sum_walked : (T : ℕ → ℕ → ℕ) (rows x old v v' : ℕ) → first + p < panels_of n → R' (first + p) ≡ top + rows
      → T (top + rows) (first + p) ≡ bit_xor (T top (first + p)) x → v ≡ bit_xor old (xor_sum (panels_of n) (λ J. T (back J) J)) → v' ≡ bit_xor v x
      → v' ≡ bit_xor old (xor_sum (panels_of n) (λ J. T (R' J) J))
  sum_walked T rows x old v v' inside here joins before after =
      after ∙ ap (λ y. bit_xor y x) before ∙ xor_assoc old (xor_sum (panels_of n) (λ J. T (back J) J)) x
      ∙ ap (bit_xor old) (sym (sum_put (panels_of n) (first + p) x (λ J. T (back J) J) (λ J. T (R' J) J)
      (ap (λ r. T r (first + p)) here ∙ joins ∙ ap (λ r. bit_xor (T r (first + p)) x) (sym back-here))
      (λ J other. ap (λ r. T r J) (sym (back-other J other)))
      ∙ ap (λ b. bit_xor (xor_sum (panels_of n) (λ J. T (back J) J)) (cond b 1 0 * x)) (ltb_yes (first + p) (panels_of n) inside)
      ∙ ap (bit_xor (xor_sum (panels_of n) (λ J. T (back J) J))) (one-mul x)))

-- the place that comes next has the same rows done
module _ (n first top p : ℕ) (piece : Piece) (r : Place) (at : PieceAt n first top piece) (next : NextPlace first p piece r)
    (even : (first - top) % 2 ≡ 0) (below : top ≤ first) (inside : first + p < end_of n first) where
  some : first - top < end_of n first - top
  some = omega arith

  most : end_of n first - top ≤ first - top + 4
  most = omega (arith, end_bounds n first)

  ends : piece.top + piece.end ≡ end_of n first
  ends = omega (arith, at.0, at.2)

  facts : (0 < rows_of (first - top) (end_of n first - top)) × (rows_of (first - top) (end_of n first - top) ≤ end_of n first - top)
      × (rows_of (first - top) (end_of n first - top) < end_of n first - top → (rows_of (first - top) (end_of n first - top) ≤ first - top) × (rows_of (first - top) (end_of n first - top) ≡ short_piece))
  facts = rows_next (first - top) (end_of n first - top) even some most

  -- the next panel of the piece
  same_piece : first + p + 1 < piece.top + piece.end → (R : ℕ → ℕ) → Walked n r.first r.top r.p R → Walked n first top (p + 1) R
  same_piece lt R walked =
      let same = next.0 lt in
      let place : r.top ≡ top = same.1 ∙ at.0 in
      rw (same.0, place, same.2) at walked

  -- the next piece of the set
  next_piece : piece.top + piece.end ≤ first + p + 1 → piece.count < piece.end → (R : ℕ → ℕ) → Walked n r.first r.top r.p R → Walked n first top (p + 1) R
  next_piece ge less R walked J h =
      let same = next.1 ge less in
      let place : r.top ≡ piece_end n first top = same.1 ∙ omega (arith, at.0, at.3) in
      let short = (facts.2 (omega (arith, at.2, at.3))).0 in
      let done : Walked n first (piece_end n first top) 0 R = rw (same.0, place, same.2) at walked in (
        (done J h).0,
        (λ l q b. absurd (omega (arith, short))),
        (λ l q b. (done J h).3 (omega arith) (omega (arith, end_bounds n first))),
        (λ l q. absurd (omega (arith, end_under n first J q h, ends))),
        (done J h).4,
      )

  -- the next set
  next-set : piece.top + piece.end ≤ first + p + 1 → piece.end ≤ piece.count → (R : ℕ → ℕ) → Walked n r.first r.top r.p R → Walked n first top (p + 1) R
  next-set ge all R walked J h =
      let same = next.2 ge all in
      let done : Walked n (first + 4) 0 0 R = rw (same.0, same.1, same.2) at walked in (
        (λ l. (done J h).0 (omega arith)),
        (λ l q b. (done J h).0 (omega (arith, end_bounds n first))),
        (λ l q b. absurd (omega (arith, end_bounds n first, end_under n first J (omega (arith, end_bounds n first)) h, at.2, at.3))),
        (λ l q. absurd (omega (arith, end_under n first J q h, ends))),
        (λ l. go done (dec_lt J (first + 4 + 4)) l),
      )
    where
      go : Walked n (first + 4) 0 0 R → Dec (J < first + 4 + 4) → first + 4 ≤ J → R J ≡ 0
      go done (yes lt) l = (done J h).3 (omega arith) lt
      go done (no ge) l = (done J h).4 (omega arith)

  pub next_walked : (R : ℕ → ℕ) → Walked n r.first r.top r.p R → Walked n first top (p + 1) R
  next_walked R walked = go (dec_lt (first + p + 1) (piece.top + piece.end)) (dec_lt piece.count piece.end)
    where
      go : Dec (first + p + 1 < piece.top + piece.end) → Dec (piece.count < piece.end) → Walked n first top (p + 1) R
      go (yes lt) d = same_piece lt R walked
      go (no ge) (yes less) = next_piece (omega arith) less R walked
      go (no ge) (no all) = next-set (omega arith) (omega arith) R walked

  -- what holds at each place that may come next holds there
  next-cases : (P : ℕ → ℕ → ℕ → Type 0) → (first + p + 1 < end_of n first → P first top (p + 1))
      → (piece_end n first top ≤ first → piece_end n first top ≡ top + short_piece → P first (piece_end n first top) 0) → (end_of n first ≤ first + p + 1 → P (first + 4) 0 0)
      → P r.first r.top r.p
  next-cases P one two three = go (dec_lt (first + p + 1) (piece.top + piece.end)) (dec_lt piece.count piece.end)
    where
      go : Dec (first + p + 1 < piece.top + piece.end) → Dec (piece.count < piece.end) → P r.first r.top r.p
      go (yes lt) d =
          let same = next.0 lt in
          let place : r.top ≡ top = same.1 ∙ at.0 in
          rw (same.0, place, same.2) (one (omega (arith, ends)))
      go (no ge) (yes less) =
          let same = next.1 (omega arith) less in
          let place : r.top ≡ piece_end n first top = same.1 ∙ omega (arith, at.0, at.3) in
          let short = facts.2 (omega (arith, at.2, at.3)) in
          rw (same.0, place, same.2) (two (omega (arith, short)) (omega (arith, short)))
      go (no ge) (no all) =
          let same = next.2 (omega arith) (omega arith) in
          rw (same.0, same.1, same.2) (three (omega (arith, ends)))

  pub next-walk : first % 4 ≡ 0 → top % 2 ≡ 0 → Walk r.first r.top
  next-walk fours twos =
      next-cases (λ f t q. Walk f t) (λ h. (fours, twos, below)) (λ low short. (fours, omega (arith, short), low)) (λ h. (omega arith, refl, omega arith))

  pub next-inside : first * 16 < n → (r.first * 16 < n → r.first + r.p < end_of n r.first) × (r.first * 16 < n + 64)
  next-inside some =
      next-cases (λ f t q. (f * 16 < n → f + q < end_of n f) × (f * 16 < n + 64))
      (λ h. ((λ _. omega arith), omega arith))
      (λ low short. ((λ _. omega arith), omega arith))
      (λ h. ((λ more. let l : first + 4 + 0 < first + 4 + 4 = omega arith in end_under n (first + 4) (first + 4 + 0) l (omega arith)), omega arith))

  -- places come one after the other
  pub next_less : first < 24 → walk_measure r.first r.top r.p < walk_measure first top p
  next_less few =
      next-cases (λ f t q. walk_measure f t q < walk_measure first top p)
      (λ h. omega (arith, end_bounds n first))
      (λ low short. omega (arith, end_bounds n first))
      (λ h. omega (arith, end_bounds n first))

  -- what is loaded for a piece serves its next panel
  pub next_held : (P : ℕ → ℕ → Type 0) → P first top → (r.p ≡ 0 → ⊥) → P r.first r.top
  next_held P held = next-cases (λ f t q. (q ≡ 0 → ⊥) → P f t) (λ h more. held) (λ low short none. absurd (none refl)) (λ h none. absurd (none refl))

-- ---- what a part of a panel adds

-- the panel of a piece, as a part of the panel of the whole
pub part-folded : (n w m : ℕ) (A : List ℕ) (top J J' count rows : ℕ) (cells : List ℕ) → Folded n w m A top J' count cells → rows ≤ count → rows ≤ J' + 1 → top + J' ≡ J
    → PartFolded n w m A J top rows cells
part-folded n w m A top J J' count rows cells folded held above place q i h f z hq hi hh hf hz row col =
    let column : (top + J') * 16 + (h * 8 + z) ≡ J * 16 + (h * 8 + z) = ap (λ k. k * 16 + (h * 8 + z)) place in
    folded q i h f z (omega arith) (omega arith) hi hh hf hz row (rw column col)
    ∙ ap (folded_bit w (block_at A (n * w) i) ((top + q) * 16 + f)) column

module _ (n w m : ℕ) (A : List ℕ) (x : ℕ → ℕ) (first top p rows : ℕ) (R' : ℕ → ℕ) (walked : Walked n first top (p + 1) R') (few : p < 4) where
  -- the lines, where one part more was added
  pub lines_walked : (cells L₀ L L' : List ℕ) → PartFolded n w m A (first + p) top rows cells → ((ρ : ℕ) → n ≤ ρ → x ρ ≡ 0)
      → ((i h z : ℕ) → i < m → h < 2 → z < 8
      → bit_of (line_byte L' m i ((first + p) * 2 + h)) z ≡ bit_xor (bit_of (line_byte L m i ((first + p) * 2 + h)) z) (left_bit cells m x i top rows h z))
      → LinesBeside m (first + p) L L' → R' (first + p) ≡ top + rows
      → ((i c : ℕ) → i < m → c < n → AddedUpTo w (n * w) m A x L₀ L i c (back n first top p R' walked few (c / 16)))
      → (i c : ℕ) → i < m → c < n → AddedUpTo w (n * w) m A x L₀ L' i c (R' (c / 16))
  lines_walked cells L₀ L L' loaded none here beside done added i c hi hc = go (ℕ_discrete (c / 16) (first + p))
    where
      go : Dec (c / 16 ≡ first + p) → AddedUpTo w (n * w) m A x L₀ L' i c (R' (c / 16))
      go (yes own) =
          let was : back n first top p R' walked few (c / 16) ≡ top = ap (back n first top p R' walked few) own ∙ back-here n first top p R' walked few in
          let is : R' (c / 16) ≡ top + rows = ap R' own ∙ done in
          let before : AddedUpTo w (n * w) m A x L₀ L i c top = rw was at (added i c hi hc) in
          rw is (added_more n w m A cells (first + p) top rows loaded x none L₀ L L' here i c hi hc own before)
      go (no other) =
          let same = back-other n first top p R' walked few (c / 16) other in
          let before : AddedUpTo w (n * w) m A x L₀ L i c (R' (c / 16)) = rw same at (added i c hi hc) in
          added_beside w (n * w) A x i m L₀ L L' (first + p) c (R' (c / 16)) hi other beside before
