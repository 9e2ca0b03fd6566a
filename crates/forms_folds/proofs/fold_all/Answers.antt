-- `forms_folds::fold_all` meets its contract. The invariant: the sixteens of rows below q are folded, and the other
-- matrices' cells are as they were.
-- Assumes nothing.
use borrow.Author.Rules.{rules}
use Prim.Native.Nat.{◌+◌, ◌*◌, ◌≤◌}
use mathlib.Core.Path.{◌≡◌, refl}
use native.Mathlib.Nat.{mul-le-mul_right}
use native.Mathlib.Omega.{arith}
use lib.ListN.{drop}
use Rattle.forms_folds.proofs.SetLaws.{chunk-folded, set_more, kept_more}
use Rattle.forms_folds.proofs.fold_all.Goals as goal

pub loop-q-init : goal.loop-q-init
loop-q-init c = ((λ x p hx. absurd (omega arith)), (λ x y e hy other he. refl))

pub part_rows-requires : goal.part_rows-requires
part_rows-requires c =
    let a = c.args in
    let l = c.loop-q in
    let pre = c.requires.0 in
    let fits = pre.0 in
    let rows : l.q * 16 + 16 ≤ a.piece.end * 16 = omega (arith, c.loop-q-test.true, fits.4) in
    (omega (arith, fits.0, fits.2), omega (arith, c.loop-q-test.true, fits.3), omega (arith, pre.5, mul-le-mul_right a.width rows))

pub put_rows-requires : goal.put_rows-requires
put_rows-requires c =
    let pre = c.requires.0 in
    let l = c.loop-q in
    (pre.0, c.loop-q-test.true, pre.1, pre.2, omega (arith, pre.3, l.auto.cells), search rules, pre.4)

pub loop-q-preserved : goal.loop-q-preserved
loop-q-preserved c =
    let a = c.args in
    let pre = c.requires in
    let l = c.loop-q in
    let M = drop a.from a.src.now in
    let made = c.part_rows in
    let put = c.put_rows in
    let few = c.loop-q-test.true in
    let folded = chunk-folded a.width a.piece.first a.piece.end a.piece.count l.q a.m a.i M a.turned.now made.new.made put.new.cells pre.1 few made.ensures put.ensures.put in (
      set_more a.width a.piece.first a.piece.end a.piece.count a.m a.i l.q M l.cells put.new.cells pre.0.1 few put.ensures.chunks_kept folded l.invariant.0,
      kept_more a.width a.piece.first a.piece.end a.piece.count a.m a.i l.q M l.cells put.new.cells pre.0.1 few put.ensures.chunks_kept a.cells.now l.invariant.1,
    )

pub returns : goal.returns
returns c =
    let l = c.loop-q in
    let end : l.q ≡ c.args.piece.count = omega arith in
    record { set_folded = rw end at l.invariant.0; others_kept = l.invariant.1 }
