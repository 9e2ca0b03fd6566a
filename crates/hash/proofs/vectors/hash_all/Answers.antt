-- `hash::vectors::hash_all` meets its contract. The invariant: where a block was hashed, the output is the hash by the
-- bytes of the blocks before g.
-- Assumes nothing.
use mathlib.Core.Path.{◌≡◌, ap, ◌∙◌}
use Prim.Native.Nat.{◌*◌}
use native.Mathlib.Omega.{arith}
use Rattle.protocol.specs.Strings.{bytes_for}
use Rattle.protocol.specs.Shape.{k_of}
use Rattle.format.specs.Sizes.{setting_for, alphabet_for, shape_for}
use Rattle.format.proofs.SizeLaws.{in-limits, k-most}
use Rattle.format.proofs.FitLaws.{k_fits, l_fits}
use Rattle.hash.specs.Hashed.{block}
use Rattle.hash.proofs.FrontLaws.{row-some}
use Rattle.std.proofs.lemmas.Grind.{div_ceil_times}
use Rattle.std.specs.Int.{div_ceil}
use Rattle.std.proofs.Common.{ℕ, ◌+◌, ◌<◌, min}
use Rattle.hash.proofs.HashMeaning.{hash-length}
use Rattle.hash.proofs.vectors.hash_all.Goals as goal

pub bytes_for-width-requires : goal.bytes_for-width-requires
bytes_for-width-requires c =
    let a = c.args in
    omega (arith, c.hashed_bits-k.ensures, k-most (setting_for a.s) (shape_for a.s) c.requires.0)

pub loop-g-init : goal.loop-g-init
loop-g-init c = λ pos. absurd (omega arith)

-- the bytes of the blocks before g, where there is a block more
begins : (g width : ℕ) → g < div_ceil width block → (g * block < width) × (min (g * block) width ≡ g * block)
begins g width h = let most = (div_ceil_times width block (omega arith)).1 in (omega (arith, h, most), omega (arith, h, most))

pub fill_entries-requires : goal.fill_entries-requires
fill_entries-requires c =
    let a = c.args in
    let shape = shape_for a.s in
    let k = c.hashed_bits-k.ensures in
    let width : c.bytes_for-width.result ≡ bytes_for (k_of (alphabet_for a.s) (shape_for a.s)) = c.bytes_for-width.ensures ∙ ap bytes_for k in
    let under = begins c.loop-g.g c.bytes_for-width.result (rw c.div_ceil-g-end.ensures at c.loop-g-test.true) in
    (omega (arith, width, k_fits (setting_for a.s) shape, c.requires.2, c.min-len.ensures, under.0), omega (arith, c.min-len.ensures))

pub hash_block-requires : goal.hash_block-requires
hash_block-requires c =
    let a = c.args in
    let shape = shape_for a.s in
    let k = c.hashed_bits-k.ensures in
    let width : c.bytes_for-width.result ≡ bytes_for (k_of (alphabet_for a.s) (shape_for a.s)) = c.bytes_for-width.ensures ∙ ap bytes_for k in
    let len = c.min-len.ensures in
    let l = c.loop-g in
    let under = begins l.g c.bytes_for-width.result (rw c.div_ceil-g-end.ensures at c.loop-g-test.true) in record {
      block_fits = (
        l.auto.out ∙ c.requires.3,
        rw width (hash-length (setting_for a.s) shape _ c.requires.1),
        (in-limits shape c.requires.0).τ_most,
        omega (arith, len),
        omega (arith, k, l_fits (setting_for a.s) shape, c.requires.2),
        omega (arith, width, k_fits (setting_for a.s) shape, c.requires.2),
        omega (arith, len, under.0),
      );
      block_tabled = (c.fill_entries.ensures, λ pos. rw under.1 at l.invariant (omega arith));
    }

pub loop-g-preserved : goal.loop-g-preserved
loop-g-preserved c =
    let l = c.loop-g in
    let under = begins l.g c.bytes_for-width.result (rw c.div_ceil-g-end.ensures at c.loop-g-test.true) in
    let next : min ((l.g + 1) * block) c.bytes_for-width.result ≡ l.g * block + c.min-len.result = omega (arith, under.0, c.min-len.ensures) in
    λ pos. rw next c.hash_block.ensures

pub returns : goal.returns
returns c =
    let a = c.args in
    let shape = shape_for a.s in
    let k = c.hashed_bits-k.ensures in
    let width : c.bytes_for-width.result ≡ bytes_for (k_of (alphabet_for a.s) (shape_for a.s)) = c.bytes_for-width.ensures ∙ ap bytes_for k in
    let l = c.loop-g in
    let all = (div_ceil_times c.bytes_for-width.result block (omega arith)).0 in
    let some = row-some (setting_for a.s) shape (in-limits shape c.requires.0).n_least in
    let end : min (l.g * block) c.bytes_for-width.result ≡ c.bytes_for-width.result = omega (arith, all, c.div_ceil-g-end.ensures) in
    let done = rw (end, width, k) at l.invariant (omega (arith, all, c.div_ceil-g-end.ensures, some, width)) in
    λ e r h i. done r i e h
