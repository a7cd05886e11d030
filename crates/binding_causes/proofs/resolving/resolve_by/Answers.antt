use Rattle.std.proofs.Common.{◌≡◌, [], List, ap, ap₂, ◌∙◌}
use Rattle.placed_trees.specs.declared.statement.Statement as placed
use Rattle.user_ops.specs.Told.{Operators}
use Rattle.binding_causes.specs.Limits.{mentions}
use Rattle.binding_causes.specs.Progress.{place_of}
use Rattle.binding_causes.specs.Resolution.{Place, resolved_from, start}
use Rattle.binding_causes.proofs.JudgingLemmas.{place_start}
use Rattle.binding_causes.proofs.resolving.resolve_by.Goals as goal

pub returns : goal.returns
returns g c =
    let told : Operators = g.O.Tells.tells c.args.ops.now in
    let script = c.args.script.now in
    let p = c.new-progress.result in
    let place : place_of c.as_slice.result.now [] p ≡ start script.statements =
    place_start script c.as_slice.result.now p (c.as_slice.ensures.value ∙ c.in_ok-all.ensures ∙ ap (mentions []) c.as_slice-statements.ensures) c.new-progress.ensures.near c.new-progress.ensures.headings c.new-progress.ensures.counts in
    c.ended.ensures ∙ c.in_ok-fault.ensures
    ∙ ap₂ (λ (q : Place) (done : List placed.Statement). resolved_from told q done c.as_slice-statements.result.now) place c.new-progress.ensures.done
    ∙ ap (resolved_from told (start script.statements) []) c.as_slice-statements.ensures
