-- `forms_batching::stacks::fill_vectors` meets its contract.
-- Assumes nothing.
use Prim.Native.Nat.{◌/◌}
use native.Mathlib.Omega.{arith}
use Rattle.forms_batching.specs.Batched.{VectorsAre}
use Rattle.forms_batching.proofs.VectorLaws.{vectors-are, vectors-end}
use Rattle.forms_batching.proofs.stacks.fill_vectors.Goals as goal

pub returns : goal.returns
returns c =
    let a = c.args in
    let turned = c.turn_sixteens in
    let rest = c.fill_rest in
    let T = a.table.now in
    let are : VectorsAre a.n a.tau T rest.new.vectors = vectors-are a.n a.tau (a.n / 16) T turned.new.vectors rest.new.vectors (omega arith) turned.ensures rest.ensures.by_index rest.ensures.by_index_2 in
    record { vectors_are = are; vectors_end = vectors-end a.n a.tau T rest.new.vectors are }
