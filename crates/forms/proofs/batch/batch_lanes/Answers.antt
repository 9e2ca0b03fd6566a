-- `forms::batch::batch_lanes` meets its contract: the batched forms at the bits of the witness.
-- Assumes nothing.
use Prim.Native.Nat.{ℕ, ◌+◌, ◌*◌, ◌≤◌, ◌<◌}
use mathlib.Core.Path.{◌≡◌, sym, ap, ◌∙◌}
use mathlib.Core.Bool.{false≢true}
use mathlib.Core.List.{List}
use native.Mathlib.Decide.{dec_lt}
use native.Mathlib.Omega.{arith}
use lib.Bits.{bit_xor}
use lib.Dec.{lit<}
use Rattle.protocol.specs.Strings.{bit}
use Rattle.protocol.specs.Shape.{most_variables}
use Rattle.theorems.proofs.StringLaws.{bit_lt}
use Rattle.strings.specs.Sums.{byte_at}
use Rattle.forms_columns.specs.Stacks.{coordinate_of}
use Rattle.equations.specs.Equations.{row_of, matrix_of}
use Rattle.equations.proofs.RowLaws.{zeros}
use Rattle.equations.proofs.BlockLaws.{bytes-enough}
use Rattle.forms.specs.Forms.{middle_byte}
use Rattle.forms.proofs.BatchLaws.{batch-same, middle-bits}
use Rattle.forms.proofs.batch.batch_lanes.Goals as goal

-- the bits of x, and zeros past them
module _ (n : ℕ) (x xs : List ℕ) (is : (c : ℕ) → c < n → byte_at xs c ≡ bit x c) (past : (c : ℕ) → n ≤ c → byte_at xs c ≡ 0) where
  bits_lt : (c : ℕ) → byte_at xs c < 2
  bits_lt c = go (dec_lt c n)
    where
      go : Dec (c < n) → byte_at xs c < 2
      go (yes h) = rw (is c h) (bit_lt x c)
      go (no h) = rw (past c (omega arith)) (lit< tt)

pub unpack-requires : goal.unpack-requires
unpack-requires c = (omega (arith, c.requires.2), omega (arith, c.requires.11, bytes-enough c.args.d.n))

pub batch_forms-requires : goal.batch_forms-requires
batch_forms-requires c =
    let pre = c.requires in
    let a = c.args in
    let unpacked = c.unpack in
    let past : (k : ℕ) → a.d.n ≤ k → byte_at unpacked.new.out k ≡ 0 = λ k h. unpacked.ensures.by_index_2 k h ∙ zeros most_variables k in
    (pre.0, omega arith, pre.2, pre.3, pre.4, pre.5, pre.6, pre.7, pre.8, pre.9, pre.10, unpacked.auto.out, bits_lt a.d.n a.x.now unpacked.new.out unpacked.ensures.by_index past, past, (λ e. absurd (false≢true (sym e))), pre.12, pre.13)

pub returns : goal.returns
returns c =
    let a = c.args in
    let n = a.d.n in
    let formed = c.batch_forms in
    let unpacked = c.unpack in record {
      lanes_added = formed.ensures.lanes_added;
      lanes_added_2 = (λ e h.
          formed.ensures.lanes_added_2 e h
          ∙ ap (bit_xor (byte_at a.qs1.now e))
          (batch-same a.d.degree a.d.m (λ q i. byte_at a.chi.now (q * a.d.m + i)) e _ (λ i. middle_byte n (matrix_of n a.a.now i) (row_of n a.b.now i) (bit a.x.now) (coordinate_of a.vectors.now e)) (λ i hi.
          middle-bits n (matrix_of n a.a.now i) (row_of n a.b.now i) (coordinate_of a.vectors.now e) (byte_at unpacked.new.out) (bit a.x.now) unpacked.ensures.by_index)));
    }
