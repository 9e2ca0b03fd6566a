-- Decimal digits, and a line that is stored part by part.
-- Assumes nothing.
use mathlib.Core.Path.{◌≡◌, sym, ap, ◌∙◌}
use mathlib.Core.List.{List, [], ◌∷◌, ◌++◌, append_assoc}
use Prim.Native.Nat.{ℕ, zero, suc, ◌+◌, ◌/◌, ◌%◌, ◌^◌, ◌≤◌, ◌<◌}
use native.Mathlib.Decide.{dec_le}
use native.Mathlib.Omega.{arith}
use lib.ListN.{length, set, take, drop, length-append}
use lib.Seq.{sets, sets-eq, drop-drop}
use Rattle.std.specs.Fmt.{decimal as library}
use Rattle.std.proofs.lemmas.Fmt.{decimal_by_steps, length-decimal-le}
use Rattle.protocol.specs.Check.{decimal_digits, decimal}
use Rattle.theorems.proofs.TestLaws.{ltb_yes, ltb_no}
use Rattle.checking.specs.Checked.{line_text}

digits-one : (f x : ℕ) → x < 10 → decimal_digits (suc f) x ≡ (48 + x) ∷ []
unfolding decimal_digits
digits-one f x h = rw (decimal_digits, ltb_yes x 10 h)

digits_more : (f x : ℕ) → 10 ≤ x → decimal_digits (suc f) x ≡ decimal_digits f (x / 10) ++ ((48 + x % 10) ∷ [])
unfolding decimal_digits
digits_more f x h = rw (decimal_digits, ltb_no x 10 h)

-- more digits than there are change nothing
enough-step : (f g x : ℕ) → Dec (10 ≤ x) → (10 ≤ x → decimal_digits f (x / 10) ≡ decimal_digits g (x / 10)) → decimal_digits (suc f) x ≡ decimal_digits (suc g) x
enough-step f g x (yes h) ih = digits_more f x h ∙ ap (λ l. l ++ ((48 + x % 10) ∷ [])) (ih h) ∙ sym (digits_more g x h)
enough-step f g x (no n) ih =
    let h : x < 10 = omega arith in
    digits-one f x h ∙ sym (digits-one g x h)

enough : (f g x : ℕ) → x < f → x < g → decimal_digits f x ≡ decimal_digits g x
enough zero g x h k = absurd (omega arith)
enough (suc f) zero x h k = absurd (omega arith)
enough (suc f) (suc g) x h k = enough-step f g x (dec_le 10 x) (λ l. enough f g (x / 10) (omega arith) (omega arith))

pub decimal-one : (x : ℕ) → x < 10 → decimal x ≡ (48 + x) ∷ []
unfolding decimal
decimal-one x h = digits-one x x h

pub decimal_more : (x : ℕ) → 10 ≤ x → decimal x ≡ decimal (x / 10) ++ ((48 + x % 10) ∷ [])
unfolding decimal
decimal_more x h = digits_more x x h ∙ ap (λ l. l ++ ((48 + x % 10) ∷ [])) (enough x (suc (x / 10)) (x / 10) (omega arith) (omega arith))

-- the library's digits are the same
pub decimal_is : (x : ℕ) → x < 2 ^ 64 → library x ≡ decimal x
decimal_is =
    decimal_by_steps (λ n ds. ds ≡ decimal n) (λ n h. sym (decimal-one n h)) (λ n ds h e. ap (λ l. l ++ ((48 + n % 10) ∷ [])) e ∙ sym (decimal_more n h))

pub five-digits : (x : ℕ) → x < 65536 → length (decimal x) ≤ 5
five-digits x h = rw (← decimal_is x (omega arith)) (length-decimal-le 5 x (omega arith) (omega arith) (omega arith))

-- ---- the parts of a line, as they are stored one after the other

pub sets_more : (l vs ws : List ℕ) (i k : ℕ) → k ≡ i + length vs → sets (sets l i vs) k ws ≡ sets l i (vs ++ ws)
sets_more l [] ws i k e =
    let z : k ≡ i = omega arith in
    ap (λ k. sets l k ws) z
sets_more l (v ∷ vs) ws i k e = sets_more (set l i v) vs ws (suc i) k (omega arith)

pub sets_first : (l vs : List ℕ) → length vs ≤ length l → sets l 0 vs ≡ vs ++ drop (length vs) l
sets_first l vs h =
    let z : 0 + length vs ≡ length vs = omega arith in
    sets-eq vs l 0 (omega arith) ∙ ap (λ k. vs ++ drop k l) z

-- a part of a line, put where it belongs
pub put_sets : (l part : List ℕ) (at k : ℕ) → k ≡ length part → at + length part ≤ length l → take at l ++ (part ++ drop k (drop at l)) ≡ sets l at part
put_sets l part at k e h =
    let d : drop k (drop at l) ≡ drop (at + length part) l = drop-drop k at l ∙ ap (λ j. drop (at + j) l) e in
    ap (λ r. take at l ++ (part ++ r)) d ∙ sym (append_assoc (take at l) part _) ∙ sym (sets-eq part l at h)

module _ (out word : List ℕ) (i p n₁ n₂ n₃ : ℕ) (e₁ : n₁ ≡ length word) (e₂ : n₂ ≡ n₁ + length (32 ∷ decimal i)) (e₃ : n₃ ≡ n₂ + length (32 ∷ decimal p)) where
  pub line-length : n₃ + 1 ≡ length (line_text word i p)
  line-length = simp length-append (omega arith)

  line_sets : set (sets (sets (sets out 0 word) n₁ (32 ∷ decimal i)) n₂ (32 ∷ decimal p)) n₃ 10 ≡ sets out 0 (line_text word i p)
  line_sets =
      let end : List ℕ = 10 ∷ [] in
      let place : List ℕ = 32 ∷ decimal p in
      let numbers : List ℕ = (32 ∷ decimal i) ++ place in
      let s : List ℕ = sets out 0 word in
      ap (λ l. sets l n₃ end) (sets_more s (32 ∷ decimal i) place n₁ n₂ e₂)
      ∙ sets_more s numbers end n₁ n₃ (simp length-append (omega arith))
      ∙ sets_more out word (numbers ++ end) 0 n₁ (omega arith)

  -- stored in four parts, the line stands at the start and what was after it is as it was
  pub line_stored : n₃ + 1 ≤ length out → set (sets (sets (sets out 0 word) n₁ (32 ∷ decimal i)) n₂ (32 ∷ decimal p)) n₃ 10 ≡ line_text word i p ++ drop (n₃ + 1) out
  line_stored h =
      line_sets
      ∙ sets_first out (line_text word i p) (rw (← line-length) h)
      ∙ ap (λ k. line_text word i p ++ drop k out) (sym line-length)
