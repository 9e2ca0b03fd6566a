-- The product check on bytes, as the code makes it, and what is said of it. In SpaceRoom and FirstDiffers A is the
-- alphabet, elsewhere a section of the key; g is the setting, and a d that comes first the degree.
--   KeyLanes n d Δ T T' == the first n coordinates of T' are those of T plus δ_e·d, in every lane e
--   EquationsOf s A b y χ == the sections of a key of sizes s that are in range, and its batching bytes
--   value_byte m χ y e == Σ_i χ(e, i)·y_i
--   product_byte d n m A b y χ e δ f == the left side of repetition e at its vector f, but for the mask: the batched
--     f·A·f, plus δ times the batched b·f, plus δ² times the batched y
--   LeftSides d s A b y χ Δ f left left' == to byte e of left that of repetition e is added, f e being its vector
--   masked_byte g s A b y χ e δ T f == the whole left side of repetition e: its mask, of the coordinates in lane e of
--     the table T, plus product_byte
--   FirstInRow d left qs0 qs1 Δ first == first is the first repetition whose left side is not QS0 + QS1·δ
--   SpaceRoom A s space == the space is no shorter than the table of the W_e, nor than the cells of the forms: it is
--     first the one, and then the other
--   FirstDiffers A s key Δ χ proof table first == first is the first repetition whose product differs, whatever leaves
--     were opened into the table
-- Assumes nothing.
use Rattle.std.specs.Prelude.{◌≡◌, true, List, ℕ, ◌+◌, ◌*◌, ◌<◌, ◌≤◌, eqb, length, Option}
use Rattle.std.specs.Int.Bits.{bit_xor}
use Rattle.algebra.specs.Coded.{mul_byte}
use Rattle.galois.specs.Degrees.{field_of}
use Rattle.protocol.specs.Strings.{bytes_for, bit}
use Rattle.protocol.specs.Alphabet.{Alphabet}
use Rattle.protocol.specs.Setting.{Setting, alphabet_of}
use Rattle.protocol.specs.Shape.{Shape, limits, mask_at, w_of}
use Rattle.protocol.specs.Questions.{product_in}
use Rattle.strings.specs.Sums.{byte_at, xor_sum}
use Rattle.lanes.specs.Lanes.{lanes, lane_at, LanesAdded, mask_lane}
use Rattle.equations.specs.Equations.{row_of}
use Rattle.tables_opened.specs.Opened.{Opened}
use Rattle.format.specs.First.{FirstOf}
use Rattle.forms_batching.specs.Batched.{CellsRoom}
use Rattle.forms.specs.Forms.{row_bit}
use Rattle.forms.specs.Batch.{batch_byte, forms_byte}

abbrev pub KeyLanes : ℕ → List ℕ → List ℕ → List ℕ → List ℕ → Type 0
KeyLanes n d Δ T T' = (c e : ℕ) → c < n → e < lanes → lane_at T' c e ≡ bit_xor (lane_at T c e) (bit d c * byte_at Δ e)

abbrev pub EquationsOf : Shape → List ℕ → List ℕ → List ℕ → List ℕ → Type 0
EquationsOf s A b y χ = (limits s ≡ true) × (length A ≡ s.m * (s.n * bytes_for s.n)) × (length b ≡ s.m * bytes_for s.n) × (s.m ≤ length y * 8) × (length χ ≡ s.τ * s.m)

abbrev pub value_byte : ℕ → List ℕ → List ℕ → ℕ → ℕ
value_byte m χ y e = xor_sum m (λ i. byte_at χ (e * m + i) * bit y i)

abbrev pub product_byte : ℕ → ℕ → ℕ → List ℕ → List ℕ → List ℕ → List ℕ → ℕ → ℕ → (ℕ → ℕ) → ℕ
product_byte d n m A b y χ e δ f =
    let linear = batch_byte d m χ e (λ i. row_bit n (row_of n b i) f) in
    bit_xor (bit_xor (forms_byte d n m A χ e f) (mul_byte (field_of d) δ linear)) (mul_byte (field_of d) (mul_byte (field_of d) δ δ) (value_byte m χ y e))

abbrev pub LeftSides : ℕ → Shape → List ℕ → List ℕ → List ℕ → List ℕ → List ℕ → (ℕ → ℕ → ℕ) → List ℕ → List ℕ → Type 0
LeftSides d s A b y χ Δ f left left' = LanesAdded s.τ (λ e. product_byte d s.n s.m A b y χ e (byte_at Δ e) (f e)) left left'

abbrev pub masked_byte : Setting → Shape → List ℕ → List ℕ → List ℕ → List ℕ → ℕ → ℕ → List ℕ → (ℕ → ℕ) → ℕ
masked_byte g s A b y χ e δ T f = bit_xor (mask_lane g.degree T (mask_at (alphabet_of g) s e) e) (product_byte g.degree s.n s.m A b y χ e δ f)

abbrev pub FirstInRow : ℕ → List ℕ → List ℕ → List ℕ → List ℕ → Option ℕ → Type 0
FirstInRow d left qs0 qs1 Δ first = FirstOf (length Δ) (λ e. eqb (byte_at left e) (bit_xor (byte_at qs0 e) (mul_byte (field_of d) (byte_at qs1 e) (byte_at Δ e)))) first

abbrev pub SpaceRoom : Alphabet → Shape → List ℕ → Type 0
SpaceRoom A s space = (8 * w_of A s * lanes ≤ length space) × CellsRoom space

abbrev pub FirstDiffers : Alphabet → Shape → List ℕ → List ℕ → List ℕ → List ℕ → List ℕ → Option ℕ → Type 0
FirstDiffers A s key Δ χ proof table first = (opened : List ℕ) → Opened A s Δ opened proof table → FirstOf s.τ (product_in A s key Δ χ opened proof) first
