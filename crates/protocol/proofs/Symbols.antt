-- The symbols of request 11, computed on the definitions; and a string of them by its bytes.
-- Assumes nothing.
use mathlib.Core.Path.{◌≡◌, refl, ap₂, ◌∙◌}
use mathlib.Core.List.{List}
use Prim.Native.Nat.{ℕ, zero, suc, ◌+◌, ◌*◌, ◌/◌, ◌%◌, ◌^◌, ◌<◌}
use native.Mathlib.Omega.{arith}
use lib.ListN.{get_or}
use Rattle.protocol.specs.Strings.{bytes_for, bit}
use Rattle.protocol.specs.Quaternary.{symbol_byte, symbol_in, symbol_at, symbol_bit}
use Rattle.protocol.specs.Symbols.{plus, times, FourToAByte, SymbolTables, SymbolStrings, SymbolMasks}
use Rattle.protocol.proofs.Computing.{computing}

pub symbol_tables : SymbolTables
unfolding computing symbol_byte symbol_in plus times
symbol_tables = record { elements_are = refl; symbols_are = refl; sums-are = refl; products_are = refl; plus_is = refl; times_is = refl }

pub symbol_strings : SymbolStrings
unfolding computing symbol_at symbol_bit
symbol_strings = record { four_read = refl; six_read = refl; six-packed = refl; six-spare = refl; first-spare-set = refl; last-spare-set = refl }

pub symbol_masks : SymbolMasks
unfolding computing symbol_byte symbol_at
symbol_masks = record { masks_are = refl; k_is = refl; L_is = refl; w_is = refl; mask-second = refl; mask-last = refl; mask_is = refl }

-- bits 2k and 2k + 1 of a number are digit k to the base 4
digits : (x k : ℕ) → k < 4 → x / 2 ^ (2 * k) % 2 + 2 * (x / 2 ^ (2 * k + 1) % 2) ≡ x / 4 ^ k % 4
digits x zero l = omega arith
digits x (suc zero) l = omega arith
digits x (suc (suc zero)) l = omega arith
digits x (suc (suc (suc zero))) l = omega arith
digits x (suc (suc (suc (suc k)))) l = absurd (omega arith)

by_digits : (s : List ℕ) (c : ℕ) → symbol_at s c ≡ get_or s (c / 4) 0 / 4 ^ (c % 4) % 4
unfolding symbol_at bit
by_digits s c =
    let i : 2 * c / 8 ≡ c / 4 = omega arith in
    let j : (2 * c + 1) / 8 ≡ c / 4 = omega arith in
    let p : 2 * c % 8 ≡ 2 * (c % 4) = omega arith in
    let q : (2 * c + 1) % 8 ≡ 2 * (c % 4) + 1 = omega arith in
    ap₂ (λ (a b : ℕ). a + 2 * b) (ap₂ (λ (a b : ℕ). get_or s a 0 / 2 ^ b % 2) i p) (ap₂ (λ (a b : ℕ). get_or s a 0 / 2 ^ b % 2) j q) ∙ digits (get_or s (c / 4) 0) (c % 4) (omega arith)

pub four_to_a_byte : FourToAByte
unfolding bytes_for
four_to_a_byte = record { by_digits = by_digits; width_is = λ c. omega arith }
