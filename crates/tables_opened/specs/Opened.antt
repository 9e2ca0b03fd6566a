-- The verifier's W_e on bytes, and the table that holds W of every repetition, coordinate by coordinate.
--   correction_bit C w e c == coordinate c of C_e: 0 at e = 0, since C_0 is all zero and not sent; the first row of the
--     section C is C_1
--   w_byte tree C count w e δ c == coordinate c of W_e = Σ over j≠δ of (j+δ)·ℓ(e,j), plus δ·C_e, as a byte, at δ = Δ_e;
--     the tree has count leaves, of which leaf δ is left out
--   correction_byte C w e b == byte b of C_e
--   CorrectionAdded C e old new == u, a string of w bytes, is as it was, plus C_e
--   OpenedFits table planes tree C w e δ r == these have the lengths of one opened tree of 2^r leaves of w bytes, C_e
--     stands whole in C, and δ is a leaf's number
--   OpenedInputs table opened Δ C τ w r == these have the lengths of τ such trees, and Δ has leaves' numbers
--   OpenedTableIs table opened Δ C τ w count == a table has the lanes W_e, for each repetition e below τ; a tree has
--     count leaves
--   Opened A s Δ opened proof table == the lanes of the table, with which a space may begin, are W_e of every
--     repetition of a proof of shape s over the alphabet A
-- Assumes nothing.
use Rattle.std.specs.Prelude.{◌≡◌, cond, List, ℕ, zero, suc, ◌+◌, ◌*◌, ◌-◌, ◌^◌, ◌<◌, ◌≤◌, eqb, length}
use Rattle.std.specs.Int.Bits.{bit_xor}
use Rattle.protocol.specs.Lists.{block_at}
use Rattle.protocol.specs.Strings.{bit}
use Rattle.protocol.specs.Alphabet.{Alphabet}
use Rattle.protocol.specs.Shape.{Shape, per_tree, w_of}
use Rattle.protocol.specs.Leaves.{opened_leaf}
use Rattle.protocol.specs.Sections.{sections_in}
use Rattle.strings.specs.Sums.{byte_at, xor_sum}
use Rattle.format.specs.Limits.{most_leaf}
use Rattle.lanes.specs.Lanes.{lanes}

abbrev pub correction_bit : List ℕ → ℕ → ℕ → ℕ → ℕ
correction_bit C w zero c = 0
correction_bit C w (suc e) c = bit (block_at C w e) c

abbrev pub w_byte : List ℕ → List ℕ → ℕ → ℕ → ℕ → ℕ → ℕ → ℕ
w_byte tree C count w e δ c = bit_xor (xor_sum count (λ j. cond (eqb j δ) 0 (bit_xor j δ * bit (opened_leaf w δ tree j) c))) (δ * correction_bit C w e c)

abbrev pub correction_byte : List ℕ → ℕ → ℕ → ℕ → ℕ
correction_byte C w zero b = 0
correction_byte C w (suc e) b = byte_at C (e * w + b)

abbrev pub CorrectionAdded : List ℕ → ℕ → List ℕ → List ℕ → Type 0
CorrectionAdded C e old new = (b : ℕ) → b < length old → byte_at new b ≡ bit_xor (byte_at old b) (correction_byte C (length old) e b)

abbrev pub OpenedFits : List ℕ → List ℕ → List ℕ → List ℕ → ℕ → ℕ → ℕ → ℕ → Type 0
OpenedFits table planes tree C w e δ r =
    (length table ≡ 8 * w * lanes) × (length planes ≡ 8 * w) × (e < lanes) × (δ < 2 ^ r) × (e * w ≤ length C) × (length tree ≡ (2 ^ r - 1) * w) × (r ≤ 8)

abbrev pub OpenedInputs : List ℕ → List ℕ → List ℕ → List ℕ → ℕ → ℕ → ℕ → Type 0
OpenedInputs table opened Δ C τ w r =
    (length table ≡ 8 * w * lanes) × (length opened ≡ τ * (2 ^ r - 1) * w) × (length Δ ≡ τ) × (length C ≡ (τ - 1) * w) × (τ ≤ lanes) × (w ≤ most_leaf)
    × (r ≤ 8) × ((e : ℕ) → e < τ → byte_at Δ e < 2 ^ r)

abbrev pub OpenedTableIs : List ℕ → List ℕ → List ℕ → List ℕ → ℕ → ℕ → ℕ → Type 0
OpenedTableIs table opened Δ C τ w count =
    (e c : ℕ) → e < τ → c < 8 * w → byte_at table (c * lanes + e) ≡ w_byte (block_at opened ((count - 1) * w) e) C count w e (byte_at Δ e) c

pub record Opened (A : Alphabet) (s : Shape) (Δ opened proof table : List ℕ) : Type 0 where
  pub table-length : 8 * w_of A s * lanes ≤ length table
  pub table_is : OpenedTableIs table opened Δ (sections_in A s proof).C s.τ (w_of A s) (per_tree A)
