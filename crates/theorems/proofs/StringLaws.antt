-- Packed bits read back, and are bytes; what is cut from bytes or joined of them is bytes;
-- and a string whose spare bits are 0 is its coordinates.
-- Assumes nothing.
use mathlib.Core.Path.{◌≡◌, refl, sym, ap, ap₂, ◌∙◌}
use mathlib.Core.Bool.{Bool, true, false, cond}
use mathlib.Core.List.{List, [], ◌∷◌, ◌++◌, map}
use Prim.Native.Nat.{ℕ, zero, suc, ◌+◌, ◌*◌, ◌-◌, ◌/◌, ◌%◌, ◌^◌, ◌≤◌, ◌<◌}
use native.Mathlib.Nat.{div-one, pow-suc, div-lt_iff_lt-mul, mod-lt}
use native.Mathlib.Decide.{dec_lt}
use native.Mathlib.Omega.{arith}
use lib.Arith.{lt-one}
use lib.Dec.{eqb, ltb, lit<}
use lib.Pow.{shr-shr}
use lib.ListN.{length, get_or, length-take, length-drop}
use lib.Seq.{ext_get_or}
use Rattle.protocol.specs.Lists.{table, concat, part, block_at}
use Rattle.protocol.specs.Strings.{bytes_for, bit, from_bits, pack, spare_zero, bytes}
use Rattle.theorems.proofs.TestLaws.{eqb_same, eqb_eq, ltb_yes, ltb_no, all_of, all-at}
use Rattle.theorems.proofs.ListLaws.{length-table, table_at, table_congr, block_getD}

pub bit_lt : (s : List ℕ) (c : ℕ) → bit s c < 2
unfolding bit
bit_lt s c = mod-lt _ (lit< tt)

pub bytes_for_le : (L : ℕ) → bytes_for L ≤ L
unfolding bytes_for
bytes_for_le L = omega arith

low : (a r : ℕ) → a < 2 → (a + 2 * r) % 2 ≡ a
low a r h = omega arith

high : (a r : ℕ) → a < 2 → (a + 2 * r) / 2 ≡ r
high a r h = omega arith

pub bits_at : (n : ℕ) (g : ℕ → ℕ) → ((i : ℕ) → g i < 2) → (k : ℕ) → k < n → from_bits n g / 2 ^ k % 2 ≡ g k
unfolding from_bits
bits_at zero g h k l = absurd (omega arith)
bits_at (suc n) g h zero l = ap (λ x. x % 2) (div-one (g 0 + 2 * from_bits n (λ i. g (suc i)))) ∙ low (g 0) _ (h 0)
bits_at (suc n) g h (suc k) l =
    let e : suc k ≡ 1 + k = omega arith in
    ap (λ j. (g 0 + 2 * from_bits n (λ i. g (suc i))) / 2 ^ j % 2) e
    ∙ ap (λ x. x % 2) (sym (shr-shr (g 0 + 2 * from_bits n (λ i. g (suc i))) 1 k))
    ∙ ap (λ x. x / 2 ^ k % 2) (high (g 0) _ (h 0))
    ∙ bits_at n (λ i. g (suc i)) (λ i. h (suc i)) k (omega arith)

pub length-pack : (L : ℕ) (f : ℕ → ℕ) → length (pack L f) ≡ bytes_for L
unfolding pack
length-pack L f = length-table (bytes_for L) _

cond_lt : (b : Bool) (x : ℕ) → x < 2 → cond b x 0 < 2
cond_lt true x h = h
cond_lt false x h = lit< tt

pub pack-bit : (L : ℕ) (f : ℕ → ℕ) → ((c : ℕ) → f c < 2) → (c : ℕ) → c / 8 < bytes_for L → bit (pack L f) c ≡ cond (ltb c L) (f c) 0
unfolding pack bit
pack-bit L f h c l =
    let e : c / 8 * 8 + c % 8 ≡ c = omega arith in
    ap (λ x. x / 2 ^ (c % 8) % 2) (table_at (bytes_for L) (λ b. from_bits 8 (λ i. cond (ltb (b * 8 + i) L) (f (b * 8 + i)) 0)) 0 (c / 8) l)
    ∙ bits_at 8 (λ i. cond (ltb (c / 8 * 8 + i) L) (f (c / 8 * 8 + i)) 0) (λ i. cond_lt (ltb (c / 8 * 8 + i) L) _ (h (c / 8 * 8 + i))) (c % 8) (omega arith)
    ∙ ap (λ k. cond (ltb k L) (f k) 0) e

pub pack_in : (L : ℕ) (f : ℕ → ℕ) → ((c : ℕ) → f c < 2) → (c : ℕ) → c < L → bit (pack L f) c ≡ f c
unfolding bytes_for
pack_in L f h c l = pack-bit L f h c (omega arith) ∙ ap (λ b. cond b (f c) 0) (ltb_yes c L l)

pub pack-spare : (L : ℕ) (f : ℕ → ℕ) → ((c : ℕ) → f c < 2) → spare_zero (pack L f) L ≡ true
unfolding spare_zero
pack-spare L f h =
    all_of (length (pack L f) * 8 - L) _ (λ i l. eqb_same _ 0 (pack-bit L f h (L + i) (omega (arith, length-pack L f)) ∙ ap (λ b. cond b (f (L + i)) 0) (ltb_no (L + i) L (omega arith))))

pub bits_lt : (n : ℕ) (g : ℕ → ℕ) → ((i : ℕ) → g i < 2) → from_bits n g < 2 ^ n
unfolding from_bits
bits_lt zero g h = omega arith
bits_lt (suc n) g h = omega (arith, h 0, bits_lt n (λ i. g (suc i)) (λ i. h (suc i)), pow-suc 2 n)

pub pack-bytes : (L : ℕ) (f : ℕ → ℕ) → ((c : ℕ) → f c < 2) → bytes (pack L f)
unfolding pack
pack-bytes L f h i l =
    let k : i < bytes_for L = omega (arith, length-pack L f) in
    rw (table_at (bytes_for L) (λ b. from_bits 8 (λ i. cond (ltb (b * 8 + i) L) (f (b * 8 + i)) 0)) 0 i k) (bits_lt 8 _ (λ p. cond_lt (ltb (i * 8 + p) L) _ (h (i * 8 + p))))

-- ---- parts of a string of bytes, and strings of bytes put together

pub bytes-block : (s : List ℕ) (w i : ℕ) → bytes s → bytes (block_at s w i)
unfolding block_at part
bytes-block s w i h b l =
    let k : b < w = omega (arith, simp length-take at l) in
    rw (block_getD s w i b k) (h (i * w + b) (omega (arith, simp (length-take, length-drop) at l)))

pub bytes-append : (s t : List ℕ) → bytes s → bytes t → bytes (s ++ t)
bytes-append [] t a b i l = b i l
bytes-append (x ∷ s) t a b zero l = a 0 (omega arith)
bytes-append (x ∷ s) t a b (suc i) l = bytes-append s t (λ j k. a (suc j) (omega arith)) b i (omega arith)

pub bytes-map : (f : ℕ → List ℕ) → ((i : ℕ) → bytes (f i)) → (js : List ℕ) → bytes (concat (map f js))
unfolding concat
bytes-map f h [] = λ i l. absurd (omega arith)
bytes-map f h (j ∷ js) = bytes-append (f j) (concat (map f js)) (h j) (bytes-map f h js)

pub bytes-table : (n : ℕ) (f : ℕ → List ℕ) → ((i : ℕ) → bytes (f i)) → bytes (concat (table n f))
unfolding concat table
bytes-table zero f h = λ i l. absurd (omega arith)
bytes-table (suc n) f h = bytes-append (f 0) (concat (table n (λ i. f (suc i)))) (h 0) (bytes-table n (λ i. f (suc i)) (λ i. h (suc i)))

-- ---- a string is its coordinates

pub bits_of : (n x : ℕ) → x < 2 ^ n → from_bits n (λ i. x / 2 ^ i % 2) ≡ x
unfolding from_bits
bits_of zero x h = sym (lt-one h)
bits_of (suc n) x h =
    ap₂ (λ a b. a % 2 + 2 * b) (div-one x) (ap (from_bits n) (λ j i. down i j) ∙ bits_of n (x / 2) ((div-lt_iff_lt-mul (lit< tt)).1 (rw (pow-suc 2 n) at h))) ∙ whole
  where
    down : (i : ℕ) → x / 2 ^ suc i % 2 ≡ x / 2 / 2 ^ i % 2
    down i = let e : suc i ≡ 1 + i = omega arith in ap (λ k. x / 2 ^ k % 2) e ∙ ap (λ y. y % 2) (sym (shr-shr x 1 i))

    whole : x % 2 + 2 * (x / 2) ≡ x
    whole = omega arith

pub spare-at : (L : ℕ) (s : List ℕ) → spare_zero s L ≡ true → (c : ℕ) → L ≤ c → c < length s * 8 → bit s c ≡ 0
unfolding spare_zero
spare-at L s z c l h =
    let e : L + (c - L) ≡ c = omega arith in
    ap (bit s) (sym e) ∙ eqb_eq (bit s (L + (c - L))) 0 (all-at (length s * 8 - L) (λ i. eqb (bit s (L + i)) 0) z (c - L) (omega arith))

coordinate_at : (L : ℕ) (s : List ℕ) → spare_zero s L ≡ true → (c : ℕ) → c < length s * 8 → cond (ltb c L) (bit s c) 0 ≡ bit s c
coordinate_at L s z c h = go (dec_lt c L)
  where
    go : Dec (c < L) → cond (ltb c L) (bit s c) 0 ≡ bit s c
    go (yes l) = ap (λ b. cond b (bit s c) 0) (ltb_yes c L l)
    go (no n) = ap (λ b. cond b (bit s c) 0) (ltb_no c L (omega arith)) ∙ sym (spare-at L s z c (omega arith) h)

pub bits_congr : (n : ℕ) (f g : ℕ → ℕ) → ((i : ℕ) → i < n → f i ≡ g i) → from_bits n f ≡ from_bits n g
unfolding from_bits
bits_congr zero f g h = refl
bits_congr (suc n) f g h = ap₂ (λ a b. a + 2 * b) (h 0 (omega arith)) (bits_congr n (λ i. f (suc i)) (λ i. g (suc i)) (λ i l. h (suc i) (omega arith)))

pub bit_in : (s : List ℕ) (i k : ℕ) → k < 8 → bit s (i * 8 + k) ≡ get_or s i 0 / 2 ^ k % 2
unfolding bit
bit_in s i k h =
    let d : (i * 8 + k) / 8 ≡ i = omega arith in
    let m : (i * 8 + k) % 8 ≡ k = omega arith in
    ap₂ (λ a b. get_or s a 0 / 2 ^ b % 2) d m

byte_is : (L : ℕ) (s : List ℕ) → spare_zero s L ≡ true → (i : ℕ) → i < length s → get_or s i 0 < 256 → from_bits 8 (λ k. cond (ltb (i * 8 + k) L) (bit s (i * 8 + k)) 0) ≡ get_or s i 0
byte_is L s z i l b =
    bits_congr 8 _ (λ k. get_or s i 0 / 2 ^ k % 2) (λ k h. coordinate_at L s z (i * 8 + k) (omega arith) ∙ bit_in s i k h) ∙ bits_of 8 (get_or s i 0) b

pub string_is : (L : ℕ) (s : List ℕ) → length s ≡ bytes_for L → bytes s → spare_zero s L ≡ true → pack L (bit s) ≡ s
unfolding pack
string_is L s h b z =
    ext_get_or 0 _ s (n ∙ sym h)
    (λ i l. let k : i < bytes_for L = omega (arith, n, l) in let j : i < length s = omega (arith, k, h) in
    table_at (bytes_for L) (λ b. from_bits 8 (λ i. cond (ltb (b * 8 + i) L) (bit s (b * 8 + i)) 0)) 0 i k ∙ byte_is L s z i j (b i j))
  where
    n : length (table (bytes_for L) (λ b. from_bits 8 (λ i. cond (ltb (b * 8 + i) L) (bit s (b * 8 + i)) 0))) ≡ bytes_for L
    n = length-table (bytes_for L) _

-- a packed string depends on its coordinates alone
pub pack_congr : (L : ℕ) (f g : ℕ → ℕ) → ((c : ℕ) → c < L → f c ≡ g c) → pack L f ≡ pack L g
unfolding pack
pack_congr L f g h = table_congr (bytes_for L) _ _ (λ b l. bits_congr 8 _ _ (λ i k. go (b * 8 + i) (dec_lt (b * 8 + i) L)))
  where
    go : (c : ℕ) → Dec (c < L) → cond (ltb c L) (f c) 0 ≡ cond (ltb c L) (g c) 0
    go c (yes l) = ap (λ x. cond (ltb c L) x 0) (h c l)
    go c (no n) = ap (λ x. cond x (f c) 0) (ltb_no c L (omega arith)) ∙ ap (λ x. cond x (g c) 0) (sym (ltb_no c L (omega arith)))
