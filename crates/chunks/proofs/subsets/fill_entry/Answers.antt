-- `chunks::subsets::fill_entry` meets its contract.
-- Assumes nothing.
use Prim.Native.Nat.{ℕ}
use mathlib.Core.List.{List, ◌++◌}
use mathlib.Core.Path.{◌≡◌, sym, ap, ◌∙◌}
use native.Mathlib.Nat.{zero-add}
use native.Mathlib.Omega.{arith}
use lib.ListN.{length, drop, length-take, get_or-append}
use lib.Bits.{bit_xor}
use Rattle.strings.specs.Sums.{byte_at}
use Rattle.strings.proofs.Rows.{row-byte}
use Rattle.chunks.proofs.PrefixLaws.{zeros, front, whole}
use Rattle.chunks.proofs.subsets.fill_entry.Goals as goal

pub slice_bounds-xor_of-end : goal.slice_bounds-xor_of-end
slice_bounds-xor_of-end c = simp length-take (omega arith)

pub xor_of-requires : goal.xor_of-requires
xor_of-requires c =
    let pre = c.requires in
    let a = c.args in
    (c.row_at.ensures.1 ∙ sym (front a.w pre.3), pre.2 ∙ sym (front a.w pre.3))

pub slice_bounds-copy_part-end : goal.slice_bounds-copy_part-end
slice_bounds-copy_part-end c =
    let a = c.args in
    sym (whole a.w c.xor_of.new.dst c.requires.3 (c.xor_of.auto.dst ∙ front a.w c.requires.3))

pub copy_part-requires : goal.copy_part-requires
copy_part-requires c =
    let a = c.args in
    let long : length (c.xor_of.new.dst ++ drop a.w zeros) ≡ 48 = whole a.w c.xor_of.new.dst c.requires.3 (c.xor_of.auto.dst ∙ front a.w c.requires.3) in
    (c.requires.1, omega (arith, long, c.requires.3))

pub returns : goal.returns
returns c =
    let a = c.args in
    let pre = c.requires in
    let r = c.xor_of.new.dst in
    let kept : length r ≡ a.w = c.xor_of.auto.dst ∙ front a.w pre.3 in
    let copied = c.copy_part in record {
      by_index = (λ f h.
          copied.ensures.by_index f h ∙ ap (byte_at (r ++ drop a.w zeros)) (zero-add f) ∙ get_or-append r (drop a.w zeros) 0 f (omega (arith, h, kept))
          ∙ c.xor_of.ensures f (omega (arith, h, front a.w pre.3))
          ∙ ap (λ (x : ℕ). bit_xor x (byte_at a.row.now f)) (ap (λ (y : List ℕ). byte_at y f) c.row_at.ensures.0 ∙ row-byte a.sums.now a.w a.from f h));
      rows_kept = copied.ensures.rows_kept;
    }
