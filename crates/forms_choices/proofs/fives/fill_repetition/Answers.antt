-- `forms_choices::fives::fill_repetition` meets its contract. The bytes of the repetition are taken with zeros past
-- them, as `up_to` has them.
-- Assumes nothing.
use Prim.Native.Nat.{ℕ, ◌+◌, ◌*◌, ◌/◌, ◌%◌, ◌≤◌, ◌<◌}
use mathlib.Core.List.{List}
use mathlib.Core.Path.{◌≡◌, sym, ap, ◌∙◌}
use native.Mathlib.Nat.{add_assoc}
use native.Mathlib.Decide.{dec_lt}
use native.Mathlib.Omega.{arith}
use lib.ListN.{get_or-replicate, replicate}
use Rattle.strings.specs.Sums.{byte_at}
use Rattle.strings.proofs.Rows.{RowsAre, rows_more}
use Rattle.forms_choices.specs.Entries.{five, in_rows, up_to}
use Rattle.forms_choices.proofs.ChoiceLaws.{choice_lt, choice-same, up-to-first, up-to-past, word-five}
use Rattle.forms_choices.proofs.PickLaws.{rows_held}
use Rattle.forms_choices.proofs.fives.fill_repetition.Goals as goal

-- the bytes of the repetition, and zeros
padded : (bytes chi : List ℕ) (f : ℕ → ℕ) (m at : ℕ) → ((i : ℕ) → i < m → f i ≡ byte_at chi (at + i)) → ((i : ℕ) → i < m → byte_at bytes i ≡ byte_at chi (at + i))
    → ((i : ℕ) → m ≤ i → byte_at bytes i ≡ byte_at (replicate 168 0) i) → (i : ℕ) → i < 168 → byte_at bytes i ≡ up_to m f i
padded bytes chi f m at are front rest i h = go (dec_lt i m)
  where
    go : Dec (i < m) → byte_at bytes i ≡ up_to m f i
    go (yes k) = front i k ∙ sym (up-to-first m f i k ∙ are i k)
    go (no k) = rest i (omega arith) ∙ get_or-replicate 168 i 0 0 h ∙ sym (up-to-past m f i (omega arith))

pub returns : goal.returns
returns c =
    let a = c.args in
    let chi = a.chi.now in
    let copy = c.copy_front in
    let first = c.fill_rows in
    let second = c.fill_rows-2 in
    let picks = c.choose_all in
    let put = c.put_rows in
    let bytes = copy.new.dst in
    let rows = second.new.rows in
    let held : RowsAre (λ h i. byte_at bytes (h * 80 + i % 16 * 5 + i / 16)) rows 2 128 =
    rows_more (λ h i. byte_at bytes (h * 80 + i % 16 * 5 + i / 16)) first.new.rows rows 1 128
    (rows_more (λ h i. byte_at bytes (h * 80 + i % 16 * 5 + i / 16)) (replicate 256 0) first.new.rows 0 128 (λ q i h. absurd (omega arith)) first.ensures.by_index first.ensures.rows_kept)
    second.ensures.by_index second.ensures.rows_kept in record {
      by_index = (λ χ p hp are g hg.
          let at : ℕ = p * 32 + g / 10 * 10 in
          let own : at + g % 10 ≡ p * 32 + g = omega arith in
          let q : (a.e * 8 + p) / 8 ≡ a.e = omega arith in
          let r : (a.e * 8 + p) % 8 ≡ p = omega arith in
          let small : (i : ℕ) → i ≤ g % 10 → byte_at picks.new.picks (at + i) < 32 =
          λ i hi. rw (add_assoc (p * 32) (g / 10 * 10) i, picks.ensures p (g / 10 * 10 + i) hp (omega (arith, hg, hi))) (choice_lt (in_rows rows) p (g / 10 * 10 + i)) in
          rw (q, r)
          (ap (λ (w : ℕ). five w (g % 10)) (put.ensures.by_index p (g / 10) hp (omega arith))
          ∙ word-five picks.new.picks at (g % 10) (omega arith) small
          ∙ ap (byte_at picks.new.picks) own
          ∙ picks.ensures p g hp hg
          ∙ choice-same (in_rows rows) (up_to a.m (χ a.e)) p g (λ i hi. rows_held bytes rows held i (omega (arith, hg, hi)) ∙ padded bytes chi (χ a.e) a.m a.at are copy.ensures.by_index copy.ensures.by_index_2 i (omega (arith, hg, hi)))));
      by_index_2 = put.ensures.by_index_2;
    }
