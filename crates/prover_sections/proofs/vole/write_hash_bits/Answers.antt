-- `prover_sections::vole::write_hash_bits` meets its contract. The invariant: the bits below rho are done, the others
-- are 0.
-- Assumes nothing.
use borrow.Author.Rules.{rules}
use borrow.Author.Count.{below_more}
use Prim.Native.Nat.{ℕ, ◌/◌, ◌%◌}
use mathlib.Core.Path.{◌≡◌, ap, ◌∙◌}
use native.Mathlib.Omega.{arith}
use mathlib.Core.List.{List}
use lib.ListN.{length, get_or-replicate}
use Rattle.strings.specs.Sums.{byte_at}
use lib.Bits.{bit_xor}
use Rattle.protocol.specs.Strings.{bytes_for, bit}
use Rattle.strings.specs.Sums.{bit_of}
use Rattle.strings.proofs.Rows.{row-end}
use Rattle.strings.proofs.Meaning.{bit_is, bitOf_zero}
use Rattle.strings.proofs.Packed.{packed}
use Rattle.prover_sections.specs.Hash.{hash_bit}
use Rattle.prover_sections.proofs.HashLaws.{hash_bit_lt}
use Rattle.prover_sections.proofs.vole.write_hash_bits.Goals as goal

pub loop-rho-init : goal.loop-rho-init
loop-rho-init c =
    let a = c.args in
    let zeros = c.fill.new.self in (
      (λ d h. absurd (omega arith)),
      (λ i. (c.type_inv.out i).fits),
      (λ d low high. bit_is zeros d ∙ ap (λ x. bit_of x (d % 8)) (ap (λ (s : List ℕ). byte_at s (d / 8)) (c.fill.ensures.after (λ y e. e)) ∙ get_or-replicate (length a.out.now) (d / 8) 0 0 (omega (arith, c.fill.ensures.len))) ∙ bitOf_zero (d % 8)),
    )

pub hash_bit-requires : goal.hash_bit-requires
hash_bit-requires c =
    let a = c.args in
    (omega (arith, row-end c.loop-rho.rho a.t (bytes_for a.k) (search rules)), omega arith, omega arith)

pub xor_bit-requires : goal.xor_bit-requires
unfolding bytes_for
xor_bit-requires c =
    let a = c.args in
    let l = c.loop-rho in
    (omega arith, rw c.hash_bit.ensures (hash_bit_lt a.matrix.now a.u.now a.k l.rho))

pub loop-rho-preserved : goal.loop-rho-preserved
unfolding bytes_for
loop-rho-preserved c =
    let a = c.args in
    let l = c.loop-rho in
    let q = c.hash_bit in
    let call = c.xor_bit in
    let zero-there : bit l.out l.rho ≡ 0 = l.invariant.2 l.rho (omega arith) (omega (arith, l.auto.out, c.fill.ensures.len)) in (
      below_more (λ d. bit call.new.s d ≡ hash_bit a.matrix.now a.u.now a.k d) l.rho (λ d h. call.ensures.by_index d (λ e. omega arith) ∙ l.invariant.0 d h) (call.ensures.c_after ∙ ap (λ x. bit_xor x q.result) zero-there ∙ q.ensures),
      (λ i. (c.type_inv.out i).fits),
      (λ d low high. call.ensures.by_index d (λ e. omega arith) ∙ l.invariant.2 d (omega arith) (omega (arith, call.auto.s))),
    )

pub returns : goal.returns
returns c =
    let a = c.args in
    let l = c.loop-rho in
    packed a.t l.out (hash_bit a.matrix.now a.u.now a.k) (omega arith) l.invariant.1
    (λ d h. l.invariant.0 d (omega arith)) (λ d low high. l.invariant.2 d (omega arith) high)
