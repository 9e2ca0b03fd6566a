-- `prover_sections::write_u` meets its contract: the count, and after it the hash of u, which is the section ũ.
-- Assumes nothing.
use mathlib.Core.Path.{◌≡◌, ap₂, ◌∙◌}
use mathlib.Core.List.{List}
use Prim.Native.Nat.{ℕ}
use native.Mathlib.Omega.{arith}
use lib.ListN.{length, length-take}
use Rattle.protocol.specs.Lists.{block_at}
use Rattle.protocol.specs.Strings.{bytes_for, pack}
use Rattle.protocol.specs.Shape.{w_of}
use Rattle.protocol.specs.Prover.{ũSection}
use Rattle.theorems.proofs.ListLaws.{row-end}
use Rattle.format.specs.Sizes.{setting_for, alphabet_for, shape_for}
use Rattle.format.proofs.SizeLaws.{in-limits, w_most, bytes_most}
use Rattle.format.proofs.FitLaws.{l_fits}
use Rattle.sections.proofs.Writes.{framed-one, rest-length}
use Rattle.prover_sections.specs.Hash.{hash_bit}
use Rattle.hash.proofs.HashMeaning.{hash-length}
use Rattle.prover_sections.proofs.SumSections.{first_is_u, hash_is}
use Rattle.prover_sections.proofs.write_u.Goals as goal

pub slice_bounds-put_count-end-2 : goal.slice_bounds-put_count-end-2
slice_bounds-put_count-end-2 c = simp length-take (omega arith)

pub bytes_for-requires : goal.bytes_for-requires
bytes_for-requires c = omega (arith, (in-limits (shape_for c.args.s) c.requires.0).t_most)

pub put_count-requires : goal.put_count-requires
put_count-requires c =
    (simp length-take (omega arith), rw c.bytes_for.ensures (omega (arith, bytes_most (shape_for c.args.s).t (omega (arith, (in-limits (shape_for c.args.s) c.requires.0).t_most)))))

pub row_at-requires : goal.row_at-requires
row_at-requires c =
    rw c.leaf_bytes-w.ensures (omega (arith, c.requires.1, row-end 0 (shape_for c.args.s).τ (w_of (alphabet_for c.args.s) (shape_for c.args.s)) (in-limits (shape_for c.args.s) c.requires.0).τ_least))

pub write_hash_bits-requires : goal.write_hash_bits-requires
write_hash_bits-requires c =
    let long : length c.row_at.result.now ≡ w_of (alphabet_for c.args.s) (shape_for c.args.s) = c.row_at.ensures.1 ∙ c.leaf_bytes-w.ensures in
    rw (c.hashed_bits-k.ensures, long) (rest-length 4 (bytes_for c.args.s.t) c.put_count.new.out c.args.out.now (c.put_count.auto.out ∙ simp length-take (omega arith)) c.requires.3, hash-length (setting_for c.args.s) (shape_for c.args.s) _ c.requires.2, l_fits (setting_for c.args.s) (shape_for c.args.s), omega (arith, w_most (setting_for c.args.s) (shape_for c.args.s) c.requires.0))

pub returns : goal.returns
returns c =
    let a = c.args in
    let shape = (shape_for c.args.s) in
    let count = c.put_count in
    let hashed = c.write_hash_bits in
    let row : c.row_at.result.now ≡ block_at c.args.sums.now (w_of (alphabet_for c.args.s) (shape_for c.args.s)) 0 = rw c.leaf_bytes-w.ensures at c.row_at.ensures.0 in
    let long : length c.write_hash_bits.new.out ≡ bytes_for c.args.s.t = hashed.auto.out ∙ rest-length 4 (bytes_for c.args.s.t) c.put_count.new.out c.args.out.now (c.put_count.auto.out ∙ simp length-take (omega arith)) c.requires.3 in
    λ leaves are.
    framed-one (bytes_for a.s.t) count.new.out a.out.now hashed.new.out (ũSection (alphabet_for a.s) shape leaves a.matrix.now) (count.auto.out ∙ simp length-take (omega arith)) (rw c.bytes_for.ensures at count.ensures)
    (hashed.ensures
    ∙ ap₂ (λ (r : List ℕ) (n : ℕ). pack a.s.t (hash_bit a.matrix.now r n)) row c.hashed_bits-k.ensures
    ∙ hash_is (setting_for c.args.s) shape leaves a.matrix.now (block_at a.sums.now (w_of (alphabet_for a.s) shape) 0) c.requires.2.hash-exact c.requires.2.hash-spare (first_is_u (setting_for c.args.s) shape leaves a.sums.now (in-limits (shape_for c.args.s) c.requires.0).τ_least are))
    long
