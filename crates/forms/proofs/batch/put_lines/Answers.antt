-- `forms::batch::put_lines` meets its contract. The invariant: the bytes of the first g tables are there.
-- Assumes nothing.
use Prim.Native.Nat.{ℕ, ◌+◌, ◌*◌, ◌/◌, ◌%◌, ◌≤◌, ◌<◌}
use mathlib.Core.List.{List}
use mathlib.Core.Path.{◌≡◌, ap, ◌∙◌}
use native.Mathlib.Nat.{mul_assoc}
use native.Mathlib.Decide.{dec_lt}
use native.Mathlib.Omega.{arith}
use Rattle.strings.specs.Sums.{byte_at}
use Rattle.strings.proofs.Rows.{row-end}
use Rattle.chunks.specs.Chunks.{chunk, cell_at}
use Rattle.forms_batching.specs.Lines.{lines_tables, line_byte}
use Rattle.forms.proofs.batch.put_lines.Invariants.{Put}
use Rattle.std.proofs.lemmas.Grind.{div_ceil_times}
use Rattle.forms.proofs.batch.put_lines.Goals as goal

-- a table, among all
table-end : (g m w : ℕ) → g * chunk < w → w ≤ lines_tables * chunk → (g * m + m) * chunk ≤ lines_tables * (m * chunk)
table-end g m w h most =
    let end = row-end g lines_tables (m * chunk) (omega arith) in
    let all : g * m * chunk ≡ g * (m * chunk) = mul_assoc g m chunk in
    omega arith

-- one table more
put_more : (m w g : ℕ) (b L L' : List ℕ) → ((i f : ℕ) → i < m → f < chunk → g * chunk + f < w → cell_at L' (g * m + i) f ≡ byte_at b (i * w + (g * chunk + f)))
    → ((r f : ℕ) → r < g * m → f < chunk → cell_at L' r f ≡ cell_at L r f) → Put m w b L g → Put m w b L' (g + 1)
put_more m w g b L L' own kept old i k hi hk l = go (dec_lt k (g * chunk))
  where
    go : Dec (k < g * chunk) → line_byte L' m i k ≡ byte_at b (i * w + k)
    go (yes less) =
        let earlier = row-end (k / chunk) g m (omega arith) in
        kept (k / chunk * m + i) (k % chunk) (omega (arith, earlier)) (omega arith) ∙ old i k hi hk less
    go (no past) =
        let table : k / chunk ≡ g = omega arith in
        let place : i * w + (g * chunk + k % chunk) ≡ i * w + k = omega arith in
        ap (λ x. cell_at L' (x * m + i) (k % chunk)) table ∙ own i (k % chunk) hi (omega arith) (omega arith) ∙ ap (byte_at b) place

pub loop-g-init : goal.loop-g-init
loop-g-init c = λ i k hi hk h. absurd (omega arith)

pub put_table-requires : goal.put_table-requires
put_table-requires c =
    let a = c.args in
    let pre = c.requires in
    let l = c.loop-g in
    let under : l.g * chunk < a.width = omega (arith, c.loop-g-test.true, c.div_ceil-g-end.ensures, (div_ceil_times a.width chunk (omega arith)).1) in
    (omega (arith, l.auto.lines, pre.0, table-end l.g a.m a.width under pre.2), pre.1, omega (arith, under))

pub loop-g-preserved : goal.loop-g-preserved
loop-g-preserved c =
    let a = c.args in
    let l = c.loop-g in
    let done = c.put_table in
    put_more a.m a.width l.g a.b.now l.lines done.new.lines done.ensures.by_index done.ensures.by_index_2 l.invariant

pub returns : goal.returns
returns c i k hi hk =
    let all = (div_ceil_times c.args.width chunk (omega arith)).0 in
    c.loop-g.invariant i k hi hk (omega (arith, all, c.div_ceil-g-end.ensures))
