-- Laws of lists cut in blocks, and of tables.
--   Each w ss == each string of ss has w entries
--   Cut w n P s == s is n blocks of w entries, each of which passes the test P
-- Assumes nothing.
use mathlib.Core.Path.{◌≡◌, refl, sym, ap, ap₂, ◌∙◌}
use mathlib.Core.Bool.{Bool, true}
use mathlib.Core.List.{List, [], ◌∷◌, ◌++◌, map, append-nil, append_assoc}
use Prim.Native.Nat.{ℕ, zero, suc, ◌+◌, ◌*◌, ◌≤◌, ◌<◌}
use native.Mathlib.Nat.{suc-mul, zero-mul, mul_assoc, add-mul, min-eq_left, mul-le-mul, le_refl}
use native.Mathlib.Omega.{arith}
use lib.ListN.{length, get_or, take, drop, length-append, length-take, length-drop}
use lib.Seq.{take_at, take-take, drop-drop, get_or-take, get_or-drop}
use Rattle.protocol.specs.Lists.{part, block_at, concat, table}

pub row-end : (i n w : ℕ) → i < n → i * w + w ≤ n * w
row-end i n w h = omega (arith, mul-le-mul h (le_refl w), suc-mul i w)

pub length-block : (s : List ℕ) (w i : ℕ) → i * w + w ≤ length s → length (block_at s w i) ≡ w
unfolding block_at part
length-block s w i h = length-take w (drop (i * w) s) ∙ rw (length-drop (i * w) s) (min-eq_left (omega arith))

pub drop-append : {A : Type 0} (s t : List A) (w k : ℕ) → length s ≡ w → drop (w + k) (s ++ t) ≡ drop k t
drop-append [] t w k h = let e : w + k ≡ k = omega arith in rw e
drop-append (x ∷ s) t w k h =
    let e : w + k ≡ suc (length s + k) = omega arith in
    rw e (drop-append s t (length s) k refl)

pub block_getD : (s : List ℕ) (w i b : ℕ) → b < w → get_or (block_at s w i) b 0 ≡ get_or s (i * w + b) 0
unfolding block_at part
block_getD s w i b h = get_or-take w (drop (i * w) s) b 0 h ∙ get_or-drop (i * w) s b 0

-- ---- blocks put together

abbrev pub Each : ℕ → List (List ℕ) → Type 0
Each w [] = Unit {0}
Each w (s ∷ ss) = (length s ≡ w) × Each w ss

pub block-concat : (w : ℕ) (ss : List (List ℕ)) → Each w ss → (i : ℕ) → i < length ss → block_at (concat ss) w i ≡ get_or ss i []
unfolding block_at part concat
block-concat w [] h i l = absurd (omega arith)
block-concat w (s ∷ ss) h zero l = rw (zero-mul w) (take_at s (concat ss) w h.0)
block-concat w (s ∷ ss) h (suc i) l =
    let e : suc i * w ≡ w + i * w = omega (arith, suc-mul i w) in
    rw (e, drop-append s (concat ss) w (i * w) h.0) (block-concat w ss h.1 i (omega arith))

pub length-concat : (w : ℕ) (ss : List (List ℕ)) → Each w ss → length (concat ss) ≡ length ss * w
unfolding concat
length-concat w [] h = sym (zero-mul w)
length-concat w (s ∷ ss) h = length-append s (concat ss) ∙ omega (arith, h.0, length-concat w ss h.1, suc-mul (length ss) w)

pub length-table : {A : Type 0} (n : ℕ) (f : ℕ → A) → length (table n f) ≡ n
unfolding table
length-table zero f = refl
length-table (suc n) f = ap suc (length-table n (λ i. f (suc i)))

pub table_at : {A : Type 0} (n : ℕ) (f : ℕ → A) (d : A) (i : ℕ) → i < n → get_or (table n f) i d ≡ f i
unfolding table
table_at zero f d i h = absurd (omega arith)
table_at (suc n) f d zero h = refl
table_at (suc n) f d (suc i) h = table_at n (λ i. f (suc i)) d i (omega arith)

pub each-table : (w n : ℕ) (f : ℕ → List ℕ) → ((i : ℕ) → i < n → length (f i) ≡ w) → Each w (table n f)
unfolding table
each-table w zero f h = tt
each-table w (suc n) f h = (h 0 (omega arith), each-table w n (λ i. f (suc i)) (λ i l. h (suc i) (omega arith)))

-- the blocks of a table of strings of one length
module _ (w n : ℕ) (f : ℕ → List ℕ) (h : (i : ℕ) → i < n → length (f i) ≡ w) where
  pub table-block : (i : ℕ) → i < n → block_at (concat (table n f)) w i ≡ f i
  table-block i l = block-concat w (table n f) (each-table w n f h) i (rw (length-table n f) l) ∙ table_at n f [] i l

  pub table-length : length (concat (table n f)) ≡ n * w
  table-length = length-concat w (table n f) (each-table w n f h) ∙ ap (λ k. k * w) (length-table n f)

pub get_d_map : {A B : Type 0} (f : A → B) (l : List A) (i : ℕ) (a : A) (b : B) → i < length l → get_or (map f l) i b ≡ f (get_or l i a)
get_d_map f [] i a b h = absurd (omega arith)
get_d_map f (x ∷ l) zero a b h = refl
get_d_map f (x ∷ l) (suc i) a b h = get_d_map f l i a b (omega arith)

-- ---- a test of every block

pub record Cut (w n : ℕ) (P : List ℕ → Bool) (s : List ℕ) : Type 0 where
  pub blocks : List (List ℕ)
  pub whole : concat blocks ≡ s
  pub number : length blocks ≡ n
  pub each : Each w blocks
  pub passes : (i : ℕ) → i < length blocks → P (get_or blocks i []) ≡ true

pub cut_at : (w n : ℕ) (P : List ℕ → Bool) (s : List ℕ) → Cut w n P s → (i : ℕ) → i < n → P (block_at s w i) ≡ true
cut_at w n P s c i l =
    let k : i < length c.blocks = omega (arith, c.number) in
    ap (λ z. P (block_at z w i)) (sym c.whole) ∙ ap P (block-concat w c.blocks c.each i k) ∙ c.passes i k

each_append : (w : ℕ) (ss ts : List (List ℕ)) → Each w ss → Each w ts → Each w (ss ++ ts)
each_append w [] ts a b = b
each_append w (s ∷ ss) ts a b = (a.0, each_append w ss ts a.1 b)

concat-append : (ss ts : List (List ℕ)) → concat (ss ++ ts) ≡ concat ss ++ concat ts
unfolding concat
concat-append [] ts = refl
concat-append (s ∷ ss) ts = ap (λ r. s ++ r) (concat-append ss ts) ∙ sym (append_assoc s (concat ss) (concat ts))

passes_append : (P : List ℕ → Bool) (ss ts : List (List ℕ)) → ((i : ℕ) → i < length ss → P (get_or ss i []) ≡ true) → ((i : ℕ) → i < length ts → P (get_or ts i []) ≡ true)
    → (i : ℕ) → i < length (ss ++ ts) → P (get_or (ss ++ ts) i []) ≡ true
passes_append P [] ts a b i l = b i l
passes_append P (s ∷ ss) ts a b zero l = a 0 (omega arith)
passes_append P (s ∷ ss) ts a b (suc i) l = passes_append P ss ts (λ k h. a (suc k) (omega arith)) b i (omega arith)

pub cut-append : (w n m : ℕ) (P : List ℕ → Bool) (s t : List ℕ) → Cut w n P s → Cut w m P t → Cut w (n + m) P (s ++ t)
cut-append w n m P s t a b = record {
  blocks = a.blocks ++ b.blocks;
  whole = concat-append a.blocks b.blocks ∙ ap₂ ◌++◌ a.whole b.whole;
  number = length-append a.blocks b.blocks ∙ ap₂ ◌+◌ a.number b.number;
  each = each_append w a.blocks b.blocks a.each b.each;
  passes = passes_append P a.blocks b.blocks a.passes b.passes;
}

pub cut-none : (w : ℕ) (P : List ℕ → Bool) → Cut w 0 P []
unfolding concat
cut-none w P = record { blocks = []; whole = refl; number = refl; each = tt; passes = λ i l. absurd (omega arith) }

pub cut-one : (w : ℕ) (P : List ℕ → Bool) (s : List ℕ) → length s ≡ w → P s ≡ true → Cut w 1 P s
unfolding concat
cut-one w P s h g = record { blocks = s ∷ []; whole = append-nil s; number = refl; each = (h, tt); passes = at }
  where
    at : (i : ℕ) → i < 1 → P (get_or (s ∷ []) i []) ≡ true
    at zero k = g
    at (suc i) k = absurd (omega arith)

pub cut-table : (w k n : ℕ) (P : List ℕ → Bool) (f : ℕ → List ℕ) → ((i : ℕ) → i < n → Cut w k P (f i)) → Cut w (n * k) P (concat (table n f))
unfolding concat table
cut-table w k zero P f h = rw (zero-mul k) (cut-none w P)
cut-table w k (suc n) P f h =
    let e : suc n * k ≡ k + n * k = omega (arith, suc-mul n k) in
    rw e (cut-append w k (n * k) P (f 0) (concat (table n (λ i. f (suc i)))) (h 0 (omega arith)) (cut-table w k n P (λ i. f (suc i)) (λ i l. h (suc i) (omega arith))))

pub table_congr : {X : Type 0} (n : ℕ) (f g : ℕ → X) → ((i : ℕ) → i < n → f i ≡ g i) → table n f ≡ table n g
unfolding table
table_congr zero f g h = refl
table_congr (suc n) f g h = ap₂ ◌∷◌ (h 0 (omega arith)) (table_congr n (λ i. f (suc i)) (λ i. g (suc i)) (λ i l. h (suc i) (omega arith)))

-- ---- a block of a block is a block

pub part-take : (w a m : ℕ) (l : List ℕ) → a + w ≤ m → take w (drop a (take m l)) ≡ take w (drop a l)
part-take w zero m l h = take-take w m l (omega arith)
part-take w (suc a) zero l h = absurd (omega arith)
part-take w (suc a) (suc m) [] h = refl
part-take w (suc a) (suc m) (x ∷ l) h = part-take w a m l (omega arith)

-- row ρ of matrix i, of n rows, is row i·n + ρ of them all
pub block-block : (s : List ℕ) (n w i ρ : ℕ) → ρ < n → block_at (block_at s (n * w) i) w ρ ≡ block_at s w (i * n + ρ)
unfolding block_at part
block-block s n w i ρ h =
    let e : i * (n * w) + ρ * w ≡ (i * n + ρ) * w = ap (λ (k : ℕ). k + ρ * w) (sym (mul_assoc i n w)) ∙ sym (add-mul (i * n) ρ w) in
    part-take w (ρ * w) (n * w) (drop (i * (n * w)) s) (row-end ρ n w h)
    ∙ ap (take w) (drop-drop (ρ * w) (i * (n * w)) s ∙ ap (λ (k : ℕ). drop k s) e)
