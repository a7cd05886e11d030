use Rattle.std.proofs.Common.{map}
use Rattle.script_trees.specs.declared.select.Joined.{Joined}
use Rattle.script_trees.specs.declared.source.Source.{Source}
use Rattle.binding_causes.specs.Found.{any_of, in_call}
use Rattle.binding_causes.specs.Operators.{origin_calls}
use Rattle.binding_causes.proofs.FoundLemmas.{any_of_map, any_of_flat_map}
use Rattle.binding_causes.proofs.calls.in_inline.Goals as goal

pub returns-in-Select : goal.returns-in-Select
returns-in-Select g c =
    let told = g.O.Tells.tells c.args.ops.now in
    let sources = c.in-Select.select.sources in
    rw (
      c.in-Select.is,
      any_of_flat_map (in_call told) (λ (s : Source). origin_calls s.origin) (map (λ (j : Joined). j.source) sources),
      any_of_map (λ (s : Source). any_of (in_call told) (origin_calls s.origin)) (λ (j : Joined). j.source) sources,
    )
    (rw c.as_slice.ensures at c.in_sources.ensures)
