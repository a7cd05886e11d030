use Rattle.std.proofs.Common.{ℕ, List, arith, refl, map, flat_map, length, take, ap, ◌∙◌}
use Rattle.std.proofs.lemmas.Option.{slice_get_read}
use Rattle.script_meaning.specs.Part.{Part}
use Rattle.result_sharing.specs.Origins.{sources_of}
use Rattle.result_sharing.specs.Steps.{origin_refs}
use Rattle.result_sharing.proofs.Steps.{refs_more, all_parts}
use Rattle.result_sharing.proofs.refs.all_refs.Goals as goal

pub loop-at-preserved : goal.loop-at-preserved
loop-at-preserved c =
    let script = c.args.script.now in
    let all = c.args.all.now in
    let at = c.loop-at.at in
    let s = c.index-script-at.result in
    refs_more c.stands_law.ensures.stands c.takes_law.ensures.takes script all at s c.loop-at.known.items _ c.in_ok-refs.refs
    (slice_get_read script (length script) at s refl (omega arith) c.index-script-at.is) c.requires c.loop-at.invariant
    (c.in_ok-refs.ensures ∙ ap (λ (old : List (List ℕ)). flat_map (origin_refs all old) (sources_of (take at script) s.command)) c.as_slice.ensures.value) c.in_ok-push.ensures.items

pub returns : goal.returns
returns c = c.loop-at.invariant ∙ ap (map (λ (p : Part). p.refs)) (all_parts c.args.script.now c.loop-at.at (omega arith))
