use Rattle.std.proofs.Common.{ℕ, List, arith, refl, map, length, take, ap, ◌∙◌}
use Rattle.std.proofs.lemmas.Option.{slice_get_read}
use Rattle.script_meaning.specs.Part.{Part}
use Rattle.result_sharing.specs.Steps.{width_in}
use Rattle.result_sharing.proofs.Steps.{widths_more, all_parts}
use Rattle.result_sharing.proofs.widths.widths_of.Goals as goal

pub loop-at-preserved : goal.loop-at-preserved
loop-at-preserved c =
    let script = c.args.script.now in
    let at = c.loop-at.at in
    let s = c.index-script-at.result in
    widths_more c.stands_law.ensures.stands script at s c.loop-at.widths.items _ c.width_of-width.result
    (slice_get_read script (length script) at s refl (omega arith) c.index-script-at.is) c.loop-at.invariant
    (c.width_of-width.ensures ∙ ap (λ (old : List ℕ). width_in (take at script) old s.command) c.as_slice.ensures.value) c.in_ok-push.ensures.items

pub returns : goal.returns
returns c = c.loop-at.invariant ∙ ap (map (λ (p : Part). length p.cols)) (all_parts c.args.script.now c.loop-at.at (omega arith))
