-- Lines, to which sums under masks are added; and the elements of a batched line, from its planes.
-- Assumes nothing.
use mathlib.Core.Path.{◌≡◌, sym, ap, ap₂, ◌∙◌}
use mathlib.Core.List.{List}
use mathlib.Core.Logic.{⊎_elim}
use Prim.Native.Nat.{ℕ, zero, suc, ◌+◌, ◌*◌, ◌/◌, ◌%◌, ◌≤◌, ◌<◌}
use native.Mathlib.Nat.{add-zero, add_assoc, add-mul, mul_comm, mul_assoc, eq-or-lt_of_le, le_of_suc-le-suc}
use native.Mathlib.Decide.{dec_lt}
use native.Mathlib.Numerals.{add-one}
use native.Mathlib.Omega.{arith}
use lib.Arith.{digits_div, digits_mod}
use lib.Bits.{bit_xor, bit_and}
use lib.ListN.{length, set, length-set}
use lib.Seq.{get_or-set_same, get_or-set_other}
use Rattle.protocol.specs.Lists.{block_at}
use Rattle.galois.specs.Degrees.{field_of, degree_of, degree}
use Rattle.strings.specs.Sums.{byte_at, bit_of, xor_sum}
use Rattle.strings.proofs.Rows.{row-end, row-byte}
use Rattle.strings.proofs.SumLaws.{sum_same, sum-short, sum_lt}
use Rattle.strings.proofs.Meaning.{bitOf_lt, bitOf_sum, bit-times, times-bit}
use Rattle.field.proofs.ProductLaws.{mask-times}
use Rattle.chunks.specs.Chunks.{chunk, cell_at}
use Rattle.chunks.proofs.BitSumLaws.{sum-swap, sum-blocks}
use Rattle.forms_choices.specs.Entries.{Tabled, choice, up_to, IsBytes, ChosenAll, looked_up, Weighed}
use Rattle.forms_choices.proofs.ChoiceLaws.{up-to-first, up-to-past, chosen-sum}
use Rattle.forms_columns.specs.Stacks.{alpha, byte_product}
use Rattle.forms_columns.proofs.ProductLaws.{product_comm, byte-bits}
use Rattle.protocol.specs.Shape.{most_variables}
use Rattle.forms_batching.specs.Lines.{chunk_bits, lines_tables, line_byte, MasksOf, left_byte, left_bit, line_sum, weighed_line}
use Rattle.forms_batching.proofs.FormLaws.{product-one}
use Rattle.forms_batching.proofs.StackLaws.{scaled_lt, planes-added}

-- ---- a chunk, added under masks

-- what a half of a chunk of sums comes to
pub half-left-bit : (cells bits : List ℕ) (s x : ℕ → ℕ) (m i top rows h z : ℕ) → ((k : ℕ) → byte_at cells k < 256) → ((c : ℕ) → x c < 2) → MasksOf x bits → (top + rows) * 16 ≤ most_variables → h < 2
    → ((k : ℕ) → k < chunk → s k ≡ left_byte cells m bits i top rows k) → bit_of (xor_sum 16 (λ f. s (h * 16 + f))) z ≡ left_bit cells m x i top rows h z
unfolding left_bit
half-left-bit cells bits s x m i top rows h z small bit masks most hh are =
    bitOf_sum 16 (λ f. s (h * 16 + f)) z
    ∙ sum_same 16 _ (λ f. xor_sum rows (λ q. row (q * 16 + f)))
    (λ f l.
    ap (λ y. bit_of y z) (are (h * 16 + f) (omega arith))
    ∙ bitOf_sum rows (λ q. bit_and (byte_at cells ((q * m + i) * chunk + (h * 16 + f))) (byte_at bits ((top + q) * 16 + (h * 16 + f) % 16))) z
    ∙ sum_same rows _ _ (λ q k. term q f k l))
    ∙ sum-swap 16 rows (λ f q. row (q * 16 + f)) ∙ sum-blocks rows 16 row
  where
    row : ℕ → ℕ
    row ρ = x (top * 16 + ρ) * bit_of (cell_at cells (ρ / 16 * m + i) (h * 16 + ρ % 16)) z

    term : (q f : ℕ) → q < rows → f < 16
        → bit_of (bit_and (byte_at cells ((q * m + i) * chunk + (h * 16 + f))) (byte_at bits ((top + q) * 16 + (h * 16 + f) % 16))) z
        ≡ x (top * 16 + (q * 16 + f)) * bit_of (cell_at cells ((q * 16 + f) / 16 * m + i) (h * 16 + (q * 16 + f) % 16)) z
    term q f hq hf =
        let cell = byte_at cells ((q * m + i) * chunk + (h * 16 + f)) in
        let r = top * 16 + (q * 16 + f) in
        let place : (top + q) * 16 + f ≡ top * 16 + (q * 16 + f) = omega arith in
        ap (λ y. bit_of (bit_and cell y) z) (ap (λ y. byte_at bits ((top + q) * 16 + y)) (digits_mod h hf) ∙ ap (byte_at bits) place ∙ masks r (omega arith))
        ∙ ap (λ y. bit_of y z) (mask-times (x r) cell (bit r) (small ((q * m + i) * chunk + (h * 16 + f))))
        ∙ times-bit (x r) cell z (bit r) ∙ mul_comm (bit_of cell z) (x r)
        ∙ sym (ap₂ (λ y w. x r * bit_of (cell_at cells (y * m + i) (h * 16 + w)) z) (digits_div q hf) (digits_mod q hf))

-- ---- two bytes of each line, to which something is added

-- where byte k of line i stands
abbrev place_of : ℕ → ℕ → ℕ → ℕ
place_of m i k = (k / chunk * m + i) * chunk + k % chunk

-- no two bytes stand at the same place
place-line : (m i k j l : ℕ) → i < m → j < m → place_of m i k ≡ place_of m j l → i ≡ j
place-line m i k j l hi hj same =
    let chunks : k / chunk * m + i ≡ l / chunk * m + j = omega arith in
    sym (digits_mod (k / chunk) hi) ∙ ap (λ x. x % m) chunks ∙ digits_mod (l / chunk) hj

place_byte : (m i k j l : ℕ) → i < m → j < m → place_of m i k ≡ place_of m j l → k ≡ l
place_byte m i k j l hi hj same =
    let chunks : k / chunk * m + i ≡ l / chunk * m + j = omega arith in
    let table : k / chunk ≡ l / chunk = sym (digits_div (k / chunk) hi) ∙ ap (λ x. x / m) chunks ∙ digits_div (l / chunk) hj in
    let byte : k % chunk ≡ l % chunk = omega arith in
    omega arith

half_of : (J h : ℕ) → h < 2 → (J * 2 + h) / 2 ≡ J
half_of J h hh = omega arith

-- the table of a panel, among those of the lines
pub table-end : (J m : ℕ) → J * 16 < most_variables → (J / 16 * m + m) * chunk ≤ lines_tables * (m * chunk)
table-end J m h =
    let end = row-end (J / 16) lines_tables (m * chunk) (omega arith) in
    let all : J / 16 * m * chunk ≡ J / 16 * (m * chunk) = mul_assoc (J / 16) m chunk in
    omega arith

-- s is added to the first n of m lines at the columns of panel J, and all else is as it was
abbrev pub PanelAdded : (ℕ → ℕ → ℕ) → ℕ → ℕ → List ℕ → List ℕ → ℕ → Type 0
PanelAdded s m J old new n =
    ((i h : ℕ) → i < n → h < 2 → line_byte new m i (J * 2 + h) ≡ bit_xor (line_byte old m i (J * 2 + h)) (s i h))
    × ((i k : ℕ) → i < m → (i < n → k / 2 ≡ J → ⊥) → line_byte new m i k ≡ line_byte old m i k)

two-added : (L : List ℕ) (at y z : ℕ) (s : ℕ → ℕ) → at + 1 < length L → y ≡ bit_xor (byte_at L at) (s 0) → z ≡ bit_xor (byte_at (set L at y) (at + 1)) (s 1)
    → (h : ℕ) → h < 2 → byte_at (set (set L at y) (at + 1) z) (at + h) ≡ bit_xor (byte_at L (at + h)) (s h)
two-added L at y z s fits is is' zero l =
    rw (add-zero at) (get_or-set_other (set L at y) (at + 1) at z 0 (λ x. omega arith) ∙ get_or-set_same L at y 0 (omega arith) ∙ is)
two-added L at y z s fits is is' (suc zero) l =
    get_or-set_same (set L at y) (at + 1) z 0 (omega (arith, length-set L at y)) ∙ is' ∙ ap (λ b. bit_xor b (s 1)) (get_or-set_other L at (at + 1) y 0 (λ x. omega arith))
two-added L at y z s fits is is' (suc (suc h)) l = absurd (omega arith)

-- one line more
pub panel_more : (s : ℕ → ℕ → ℕ) (m J : ℕ) (old L : List ℕ) (n at y z : ℕ) → at ≡ place_of m n (J * 2) → n < m → at + 1 < length L
    → y ≡ bit_xor (byte_at L at) (s n 0) → z ≡ bit_xor (byte_at (set L at y) (at + 1)) (s n 1) → PanelAdded s m J old L n → PanelAdded s m J old (set (set L at y) (at + 1) z) (n + 1)
panel_more s m J old L n at y z place hn fits is is' (done, rest) = (
  (λ i h hi hh.
      ⊎_elim
      (λ (e : i ≡ n).
      let here : place_of m n (J * 2 + h) ≡ at + h = two_places h hh in
      rw e (ap (byte_at new) here ∙ two-added L at y z (s n) fits is is' h hh
      ∙ ap (λ b. bit_xor b (s n h)) (ap (byte_at L) (sym here) ∙ rest n (J * 2 + h) hn (λ lt. absurd (omega arith)))))
      (λ (lt : i < n). same i (J * 2 + h) (omega arith) (λ e. absurd (omega arith)) ∙ done i h lt hh)
      (eq-or-lt_of_le (le_of_suc-le-suc (rw add-one at hi)))),
  (λ i k hi other. same i k hi (λ e half. other (omega arith) half) ∙ rest i k hi (λ lt. other (omega arith))),
)
  where
    new : List ℕ
    new = set (set L at y) (at + 1) z

    two_places : (h : ℕ) → h < 2 → place_of m n (J * 2 + h) ≡ at + h
    two_places h hh =
        let table : (J * 2 + h) / chunk ≡ J * 2 / chunk = omega arith in
        let byte : (J * 2 + h) % chunk ≡ J * 2 % chunk + h = omega arith in
        rw (table, byte) (omega arith)

    same : (i k : ℕ) → i < m → (i ≡ n → k / 2 ≡ J → ⊥) → line_byte new m i k ≡ line_byte L m i k
    same i k hi other =
        get_or-set_other (set L at y) (at + 1) (place_of m i k) z 0 (λ e. apart 1 (omega arith) e)
        ∙ get_or-set_other L at (place_of m i k) y 0 (λ e. apart 0 (omega arith) (e ∙ sym (add-zero at)))
      where
        apart : (h : ℕ) → h < 2 → place_of m i k ≡ at + h → ⊥
        apart h hh e =
            let both : place_of m i k ≡ place_of m n (J * 2 + h) = e ∙ sym (two_places h hh) in
            let byte : k ≡ J * 2 + h = place_byte m i k n (J * 2 + h) hi hn both in
            other (place-line m i k n (J * 2 + h) hi hn both) (ap (λ x. x / 2) byte ∙ half_of J h hh)

-- ---- the elements of a batched line

alpha_lt : (p : ℕ) → alpha degree p < 256
unfolding alpha field_of
alpha_lt p = (field_of degree).byte_lt _

-- all planes of a batched bit
planes-sum : (S : List ℕ) (χ : ℕ → ℕ) (m f z : ℕ) → ((i : ℕ) → i < m → χ i < 256)
    → xor_sum 8 (λ p. bit_of (xor_sum m (λ i. bit_of (χ i) p * cell_at S i f)) z * alpha degree p) ≡ xor_sum m (λ i. bit_of (cell_at S i f) z * χ i)
unfolding degree_of field_of
planes-sum S χ m f z small =
    sum_same 8 _ (λ p. xor_sum m (λ i. bit_of (χ i) p * bit_of (cell_at S i f) z) * byte_product degree (alpha degree p) 1)
    (λ p l. ap₂ ◌*◌ (bitOf_sum m (λ i. bit_of (χ i) p * cell_at S i f) z ∙ sum_same m _ _ (λ i k. bit-times (bit_of (χ i) p) (cell_at S i f) z (bitOf_lt (χ i) p)))
    (sym (product_comm degree (alpha degree p) 1 ∙ product-one degree (alpha degree p) (alpha_lt p))))
    ∙ planes-added degree m 1 χ (λ i. bit_of (cell_at S i f) z) (λ i. bitOf_lt (cell_at S i f) z)
    ∙ product-one degree _ (sum_lt 8 m _ (omega arith) (λ i l. scaled_lt 256 (bit_of (cell_at S i f) z) (χ i) (bitOf_lt (cell_at S i f) z) (small i l)))

-- an element whose bits are those of the planes at its coordinate
pub element_is : (S : List ℕ) (χ : ℕ → ℕ) (m : ℕ) (sums W : List ℕ) (G r : ℕ) (planes : List ℕ) (v c : ℕ) → Weighed S χ m sums W G r → v < 256 → c < chunk_bits
    → ((p f : ℕ) → p < 8 → f < chunk → cell_at planes p f ≡ looked_up sums W (r + p) G f)
    → ((p : ℕ) → p < 8 → bit_of v p ≡ bit_of (cell_at planes p (c / 8)) (c % 8)) → v ≡ weighed_line S χ m c
unfolding degree_of field_of
element_is S χ m sums W G r planes v c weighed small hc are bits =
    let inside : c / 8 < chunk = omega arith in
    sym (byte-bits degree v small)
    ∙ sum_same 8 _ (λ p. bit_of (xor_sum m (λ i. bit_of (χ i) p * cell_at S i (c / 8))) (c % 8) * alpha degree p)
    (λ p l. ap (λ x. x * alpha degree p) (bits p l ∙ ap (λ x. bit_of x (c % 8)) (are p (c / 8) l inside ∙ chosen-sum S χ m sums W G r p (c / 8) weighed l inside)))
    ∙ planes-sum S χ m (c / 8) (c % 8) weighed.3

-- the words of a repetition, among those of all
pub weighed-rows : (S sums W : List ℕ) (χ : ℕ → ℕ → ℕ) (m G tau : ℕ) → Tabled S sums (G * 32) → length S ≡ m * chunk → m ≤ G * 5 → G ≤ 32 → IsBytes χ
    → ChosenAll χ m tau W → (q : ℕ) → q < tau → Weighed S (up_to m (χ q)) m sums W G (q * 8)
weighed-rows S sums W χ m G tau tabled long enough few small chosen q h =
    (tabled, long, enough, (λ i l. rw (up-to-first m (χ q) i l) (small q i)), λ p g hp hg. chosen (q * 8 + p) (omega arith) g (omega arith) ∙ ap₂ (λ x y. choice (up_to m (χ x)) y g) (digits_div q hp) (digits_mod q hp))

-- the coordinates of a table of chunks, among those of the lines
pub line-sum : (L : List ℕ) (χ : ℕ → ℕ → ℕ) (m e g c : ℕ) → c < chunk_bits → weighed_line (block_at L (m * chunk) g) (up_to m (χ e)) m c ≡ line_sum L m χ e (g * chunk_bits + c)
unfolding line_sum
line-sum L χ m e g c h =
    sum_same m _ _ (λ i l.
    let inside : i * chunk + c / 8 < m * chunk = omega arith in
    let table : (g * chunk_bits + c) / 8 / chunk ≡ g = omega arith in
    let byte : (g * chunk_bits + c) / 8 % chunk ≡ c / 8 = omega arith in
    let bit : (g * chunk_bits + c) % 8 ≡ c % 8 = omega arith in
    ap₂ (λ x y. bit_of x (c % 8) * y)
    (row-byte L (m * chunk) g (i * chunk + c / 8) inside ∙ ap (byte_at L) (place g m i (c / 8)) ∙ sym (ap₂ (λ x y. cell_at L (x * m + i) y) table byte))
    (up-to-first m (χ e) i l)
    ∙ sym (ap (λ z. bit_of (line_byte L m i ((g * chunk_bits + c) / 8)) z * χ e i) bit))
  where
    place : (g m i f : ℕ) → g * (m * chunk) + (i * chunk + f) ≡ (g * m + i) * chunk + f
    place g m i f = ap (λ x. x + (i * chunk + f)) (sym (mul_assoc g m chunk)) ∙ sym (add_assoc (g * m * chunk) (i * chunk) f) ∙ ap (λ x. x + f) (sym (add-mul (g * m) i chunk))

-- ---- the coordinates of the tables, one table after the other

-- those past the n-th are 0, and so are those that a vector does not have
pub products-table : (n from count : ℕ) (t : ℕ → ℕ) → n ≤ most_variables → count ≤ chunk_bits → (count < chunk_bits → from + count ≡ most_variables) → ((c : ℕ) → n ≤ c → c < from + count → t c ≡ 0)
    → xor_sum count (λ c. t (from + c)) ≡ xor_sum chunk_bits (λ c. up_to n t (from + c))
products-table n from count t most few end none =
    sum_same count _ (λ c. up_to n t (from + c)) (λ c l. own c l (dec_lt (from + c) n))
    ∙ sym (sum-short count chunk_bits (λ c. up_to n t (from + c)) few (λ c l k. up-to-past n t (from + c) (omega (arith, end (omega arith)))))
  where
    own : (c : ℕ) → c < count → Dec (from + c < n) → t (from + c) ≡ up_to n t (from + c)
    own c l (yes h) = sym (up-to-first n t (from + c) h)
    own c l (no h) = none (from + c) (omega arith) (omega arith) ∙ sym (up-to-past n t (from + c) (omega arith))

-- all tables
pub products-all : (n all : ℕ) (t : ℕ → ℕ) → n ≤ all → xor_sum all (up_to n t) ≡ xor_sum n t
products-all n all t h = sum-short n all (up_to n t) h (λ c l k. up-to-past n t c l) ∙ sum_same n _ _ (λ c l. up-to-first n t c l)
