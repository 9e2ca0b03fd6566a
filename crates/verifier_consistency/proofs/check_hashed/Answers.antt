-- `verifier_consistency::check_hashed` meets its contract: the hashed lanes are H-as-W_e.
-- Assumes nothing.
use Prim.Native.Nat.{ℕ, ◌*◌}
use mathlib.Core.Path.{sym, ap, ◌∙◌}
use native.Mathlib.Omega.{arith}
use Rattle.protocol.specs.Sections.{sections_in}
use Rattle.format.specs.Sizes.{setting_for, alphabet_for, shape_for}
use Rattle.theorems.proofs.ElementLaws.{element_lt}
use Rattle.format.proofs.SizeLaws.{in-limits}
use Rattle.equations.proofs.BlockLaws.{bytes-enough}
use Rattle.questions_proof.proofs.ProofLaws.{section-lengths}
use Rattle.verifier_consistency.proofs.ConsistencyMeaning.{first_inconsistent_is}
use Rattle.verifier_consistency.proofs.check_hashed.Goals as goal

pub hash_all-requires : goal.hash_all-requires
hash_all-requires c =
    (c.requires.s_value.0, c.requires.s_value.1, c.requires.table_len.0, c.requires.table_len.1)

pub first_inconsistent-requires : goal.first_inconsistent-requires
first_inconsistent-requires c =
    let shape = shape_for c.args.s in
    let p = c.requires.s_value.2 in
    let sections = section-lengths (alphabet_for c.args.s) shape in
    let each = ap (λ (n : ℕ). n * c.args.s.t) (sym c.requires.s_value.3) in (
      (c.hash_all.auto.out ∙ c.requires.table_len.1 ∙ each, p.v_is.1 ∙ sections.v_length ∙ each),
      (in-limits shape c.requires.s_value.0).t_most,
      omega (arith, p.u_is.1, sections.u_length, bytes-enough c.args.s.t),
    )

pub returns : goal.returns
returns c opened is =
    let a = c.args in
    let shape = shape_for a.s in
    let p = c.requires.s_value.2 in
    let hashed = c.hash_all in
    first_inconsistent_is (setting_for a.s) shape a.delta.now opened a.proof.bytes.now a.table.now is c.requires.s_value.3 (element_lt (alphabet_for a.s) a.delta.now c.requires.delta_value.0) a.matrix.now hashed.new.out c.requires.s_value.1
    (element_lt (alphabet_for a.s) (sections_in (alphabet_for a.s) shape a.proof.bytes.now).Ṽ c.requires.delta_value.1) hashed.ensures _
    (rw (← p.v_is.0, ← p.u_is.0) c.first_inconsistent.ensures)
