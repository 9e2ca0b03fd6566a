-- `forms_columns::fronts::fill_front` meets its contract. The invariant: the first sixteens of repetitions are filled.
-- Assumes nothing.
use native.Mathlib.Omega.{arith}
use lib.Dec.{lit<}
use Rattle.std.proofs.lemmas.Grind.{div_ceil_times}
use Rattle.forms_columns.proofs.FrontLaws.{front_more}
use Rattle.forms_columns.proofs.fronts.fill_front.Goals as goal

pub loop-b-init : goal.loop-b-init
loop-b-init c k e hk he = absurd (omega arith)

pub fill_sixteen-requires : goal.fill_sixteen-requires
fill_sixteen-requires c = let t = div_ceil_times c.args.tau 16 (lit< tt) in (c.requires.0, c.requires.1, omega arith)

pub loop-b-preserved : goal.loop-b-preserved
loop-b-preserved c =
    let a = c.args in
    let l = c.loop-b in
    let done = c.fill_sixteen in
    front_more l.b a.first a.vectors.now l.front done.new.front done.ensures.by_index done.ensures.by_index_2 l.invariant

pub returns : goal.returns
returns c k e hk he =
    let t = div_ceil_times c.args.tau 16 (lit< tt) in
    c.loop-b.invariant k e hk (omega arith)
