-- `hash::vectors::hash_block` meets its contract. The invariant: the rows below rho have their block, and the others
-- are as they were.
-- Assumes nothing.
use mathlib.Core.Path.{◌≡◌, refl, ◌∙◌}
use mathlib.Core.Logic.{⊎_elim}
use Prim.Native.Nat.{◌<◌}
use native.Mathlib.Nat.{eq-or-lt_of_le, le_of_suc-le-suc}
use native.Mathlib.Numerals.{add-one}
use native.Mathlib.Omega.{arith}
use Rattle.hash.proofs.vectors.hash_block.Goals as goal

pub loop-rho-init : goal.loop-rho-init
loop-rho-init c = ((λ r h. absurd (omega arith)), λ e r h k n. refl)

pub hash_row-requires : goal.hash_row-requires
hash_row-requires c =
    let l = c.loop-rho in
    let fits = c.requires.block_fits in
    let below : l.rho < c.args.b.t = omega arith in record {
      block_fits = ((l.auto.out ∙ fits.0, fits.1, fits.2, fits.3, fits.4, fits.5, fits.6), below);
      block_tabled = (c.requires.block_tabled.0, λ pos e h. l.invariant.1 e l.rho h (omega arith) below ∙ c.requires.block_tabled.1 pos l.rho below e h);
    }

pub loop-rho-preserved : goal.loop-rho-preserved
loop-rho-preserved c =
    let l = c.loop-rho in
    let call = c.hash_row in (
      (λ r h e k.
          ⊎_elim (λ (z : r ≡ l.rho). rw z (call.ensures.column e k))
          (λ (lt : r < l.rho). call.ensures.by_index e r k (omega arith) (λ z. omega arith) ∙ l.invariant.0 r lt e k)
          (eq-or-lt_of_le (le_of_suc-le-suc (rw add-one at h)))),
      (λ e r h low k. call.ensures.by_index e r h k (λ z. omega arith) ∙ l.invariant.1 e r h (omega arith) k),
    )

pub returns : goal.returns
returns c = λ r h. c.loop-rho.invariant.0 r (omega arith)
