-- `shake::input::mix` meets its contract. Three parts are added one after the other.
-- Assumes nothing.
use Rattle.sponge.specs.Sponge.{added_all}
use Rattle.shake.proofs.MixLaws.{three_parts, where-words_min}
use Prim.Native.Nat.{◌+◌, ◌*◌, ◌/◌, ◌-◌}
use mathlib.Core.Path.{ap, ◌∙◌}
use native.Mathlib.Omega.{arith}
use lib.ListN.{length, take, drop, length-take, length-drop}
use Rattle.shake.proofs.input.mix.Goals as goal

pub slice_bounds-mix_bytes-end : goal.slice_bounds-mix_bytes-end
slice_bounds-mix_bytes-end c = simp length-take (omega arith)

pub mix_bytes-requires : goal.mix_bytes-requires
mix_bytes-requires c = simp length-take (omega arith)

pub mix_words-requires : goal.mix_words-requires
mix_words-requires c = (simp (length-take, length-drop) (omega arith), simp (length-take, length-drop) (omega arith))

pub mix_bytes-requires-2 : goal.mix_bytes-requires-2
mix_bytes-requires-2 c = simp (length-take, length-drop) (omega arith)

pub returns : goal.returns
returns c =
    let a = c.args in
    let h = c.min-head.result in
    let p = a.part.now in
    let t = h + (length p - h) / 8 * 8 in
    c.mix_bytes-2.ensures
    ∙ ap (λ s. added_all s (a.at + t) (take (length p - t) (drop t p)))
    (c.mix_words.ensures ∙ ap (λ s. added_all s (8 * ((a.at + h) / 8)) (take (t - h) (drop h p))) c.mix_bytes.ensures)
    ∙ three_parts p a.lanes.now a.at h t (omega arith) (omega arith) (where-words_min a.at h (length p) c.min-head.ensures)
