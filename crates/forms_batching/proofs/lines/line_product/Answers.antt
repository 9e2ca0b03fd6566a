-- `forms_batching::lines::line_product` meets its contract. What an element is that has its bits from the planes is
-- `LineLaws`.
-- Assumes nothing.
use Prim.Native.Nat.{ℕ, ◌+◌, ◌*◌, ◌-◌, ◌/◌, ◌%◌, ◌≤◌, ◌<◌}
use mathlib.Core.List.{List}
use mathlib.Core.Path.{◌≡◌, ap, ap₂, ◌∙◌}
use native.Mathlib.Nat.{add_assoc, add-sub_cancel_left}
use native.Mathlib.Decide.{dec_lt}
use native.Mathlib.Omega.{arith}
use lib.ListN.{length, take, drop, length-take, length-drop}
use lib.Seq.{get_or-take, get_or-drop}
use Rattle.galois.specs.Degrees.{field_of}
use Rattle.strings.specs.Sums.{byte_at, bit_of}
use Rattle.strings.proofs.SumLaws.{sum_same}
use Rattle.chunks.specs.Chunks.{cell_at}
use Rattle.forms_columns.specs.Stacks.{byte_product}
use Rattle.protocol.specs.Shape.{most_variables}
use Rattle.forms_batching.specs.Lines.{chunk_bits, dot_of}
use Rattle.forms_batching.proofs.LineLaws.{element_is}
use Rattle.forms_batching.proofs.lines.line_product.Goals as goal

-- half h of the elements has its bits from the planes
abbrev Turned : List ℕ → List ℕ → ℕ → Type 0
Turned planes elements h = (r p : ℕ) → r < 128 → p < 8 → bit_of (byte_at elements (h * 128 + r)) p ≡ bit_of (cell_at planes p (h * 16 + r / 8)) (r % 8)

both-turned : (planes first elements : List ℕ) → Turned planes first 0 → Turned planes elements 1 → ((q r : ℕ) → (q ≡ 1 → ⊥) → r < 128 → byte_at elements (q * 128 + r) ≡ byte_at first (q * 128 + r))
    → (c p : ℕ) → c < chunk_bits → p < 8 → bit_of (byte_at elements c) p ≡ bit_of (cell_at planes p (c / 8)) (c % 8)
both-turned planes first elements low high kept c p hc hp = go (dec_lt c 128)
  where
    go : Dec (c < 128) → bit_of (byte_at elements c) p ≡ bit_of (cell_at planes p (c / 8)) (c % 8)
    go (yes lt) =
        let at : c ≡ 0 * 128 + c = omega arith in
        let row : 0 * 16 + c / 8 ≡ c / 8 = omega arith in
        ap (λ j. bit_of (byte_at elements j) p) at ∙ ap (λ x. bit_of x p) (kept 0 c (λ e. omega arith) lt) ∙ low c p lt hp ∙ ap (λ f. bit_of (cell_at planes p f) (c % 8)) row
    go (no ge) =
        let at : c ≡ 1 * 128 + (c - 128) = omega arith in
        let row : 1 * 16 + (c - 128) / 8 ≡ c / 8 = omega arith in
        let place : (c - 128) % 8 ≡ c % 8 = omega arith in
        ap (λ j. bit_of (byte_at elements j) p) at ∙ high (c - 128) p (omega arith) hp ∙ ap₂ (λ f z. bit_of (cell_at planes p f) z) row place

-- the part that is lent
part-byte : (vs : List ℕ) (at count j : ℕ) → j < count → byte_at (take (at + count - at) (drop at vs)) j ≡ byte_at vs (at + j)
part-byte vs at count j h =
    let long : at + count - at ≡ count = add-sub_cancel_left at count in
    rw long (get_or-take count (drop at vs) j 0 h ∙ get_or-drop at vs j 0)

part-long : (vs : List ℕ) (at count : ℕ) → at + count ≤ length vs → length (take (at + count - at) (drop at vs)) ≡ count
part-long vs at count h =
    let long : at + count - at ≡ count = add-sub_cancel_left at count in
    rw (long, length-take, length-drop) (omega arith)

pub dot-requires : goal.dot-requires
dot-requires c =
    let a = c.args in
    let pre = c.requires in
    let at = a.e * most_variables + a.from in
    let inside : at + a.count ≤ length a.vectors.now = omega (arith, pre.4, pre.5) in
    omega (arith, pre.6, part-long a.vectors.now at a.count inside)

pub returns : goal.returns
unfolding byte_product
returns c =
    let a = c.args in
    let pre = c.requires in
    let looked = c.look_up_planes in
    let first = c.turn_half in
    let second = c.turn_half-2 in
    let planes = looked.new.planes in
    let elements = second.new.elements in
    let vs = a.vectors.now in
    let at = a.e * most_variables + a.from in
    let inside : at + a.count ≤ length vs = omega (arith, pre.4, pre.5) in
    λ S χ m weighed.
    c.dot.ensures
    ∙ ap (dot_of (field_of a.degree) (take (at + a.count - at) (drop at vs)) elements) (part-long vs at a.count inside)
    ∙ sum_same a.count _ _ (λ j l.
    let small : j < chunk_bits = omega (arith, l, pre.6) in
    ap₂ (byte_product a.degree) (part-byte vs at a.count j l ∙ ap (byte_at vs) (add_assoc (a.e * most_variables) a.from j))
    (element_is S χ m a.sums.now a.words.now a.groups (a.e * 8) planes (byte_at elements j) j weighed (second.ensures.by_index_2 j) small looked.ensures
    (λ p hp. both-turned planes first.new.elements elements first.ensures.by_index second.ensures.by_index second.ensures.rows_kept j p small hp)))
