-- `prover_sections::write_v` meets its contract: the count, and after it the hashed lanes, which are the section Ṽ.
-- Assumes nothing.
use mathlib.Core.Path.{◌≡◌, sym, ap, ◌∙◌}
use Prim.Native.Nat.{ℕ, ◌*◌}
use native.Mathlib.Omega.{arith}
use lib.ListN.{length, take, length-take}
use Rattle.protocol.specs.Shape.{per_tree, w_of}
use Rattle.protocol.specs.Prover.{ṼSection}
use Rattle.format.specs.Sizes.{setting_for, alphabet_for, shape_for}
use Rattle.format.proofs.SizeLaws.{in-limits, hashed_most}
use Rattle.sections.proofs.Writes.{framed-one, rest-length, take-length}
use Rattle.lanes.specs.Lanes.{lanes}
use Rattle.prover_sections.proofs.HashSections.{hashed_are}
use Rattle.prover_sections.proofs.HashSections.{table_less}
use Rattle.prover_sections.proofs.write_v.Goals as goal

pub slice_bounds-put_count-end-2 : goal.slice_bounds-put_count-end-2
slice_bounds-put_count-end-2 c = simp length-take (omega arith)

pub put_count-requires : goal.put_count-requires
put_count-requires c =
    (simp length-take (omega arith), omega (arith, hashed_most (shape_for c.args.s) c.requires.0))

pub slice_bounds-hash_all-end-2 : goal.slice_bounds-hash_all-end-2
slice_bounds-hash_all-end-2 c =
    sym (take-length (8 * c.leaf_bytes-w.result * 48) c.args.table.now (rw c.leaf_bytes-w.ensures c.requires.1))

pub hash_all-requires : goal.hash_all-requires
hash_all-requires c =
    let cut : length (take (8 * c.leaf_bytes-w.result * 48) c.args.table.now) ≡ 8 * w_of (alphabet_for c.args.s) (shape_for c.args.s) * lanes = take-length (8 * c.leaf_bytes-w.result * 48) c.args.table.now (rw c.leaf_bytes-w.ensures c.requires.1) ∙ ap (λ (x : ℕ). 8 * x * 48) c.leaf_bytes-w.ensures in
    (c.requires.0, c.requires.2, cut, rest-length 4 (c.args.s.tau * c.args.s.t) c.put_count.new.out c.args.out.now (c.put_count.auto.out ∙ simp length-take (omega arith)) c.requires.3)

pub returns : goal.returns
returns c =
    let a = c.args in
    let shape = (shape_for c.args.s) in
    let count = c.put_count in
    let hashed = c.hash_all in
    let long : length c.hash_all.new.out ≡ c.args.s.tau * c.args.s.t = hashed.auto.out ∙ rest-length 4 (c.args.s.tau * c.args.s.t) c.put_count.new.out c.args.out.now (c.put_count.auto.out ∙ simp length-take (omega arith)) c.requires.3 in
    λ leaves is.
    framed-one (a.s.tau * a.s.t) count.new.out a.out.now hashed.new.out (ṼSection (alphabet_for a.s) shape leaves a.matrix.now) (count.auto.out ∙ simp length-take (omega arith)) count.ensures
    (hashed_are (setting_for c.args.s) shape leaves a.matrix.now (take (8 * w_of (alphabet_for a.s) shape * lanes) a.table.now) hashed.new.out c.requires.2
    (table_less a.table.now leaves a.s.tau (w_of (alphabet_for a.s) shape) (per_tree (alphabet_for a.s)) (in-limits shape c.requires.0).τ_most is) long (rw c.leaf_bytes-w.ensures at hashed.ensures))
    long
