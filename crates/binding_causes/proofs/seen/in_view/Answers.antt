use Rattle.std.proofs.Common.{ℕ, Bool, List, not, ap, ap₂, ◌∙◌}
use Rattle.script_trees.specs.declared.select.Joined.{Joined}
use Rattle.names_in_sight.specs.declared.input.Input.{Input}
use Rattle.names_in_sight.specs.declared.view.View.{View}
use Rattle.names_in_sight.specs.Inputs.{Before, before_of}
use Rattle.user_ops.specs.Told.{Operators}
use Rattle.binding_causes.specs.declared.found.Found.{Found}
use Rattle.binding_causes.specs.declared.seen.Seen.{Seen}
use Rattle.binding_causes.specs.Asked.{asked_by_select}
use Rattle.binding_causes.specs.Columns.{is_star_double}
use Rattle.binding_causes.specs.Limits.{select_count}
use Rattle.binding_causes.specs.Found.{none, either, in_asked}
use Rattle.binding_causes.specs.Operators.{side_of, is_combiner_missing, outer_taken}
use Rattle.binding_causes.proofs.seen.in_view.Goals as goal

pub returns : goal.returns
returns g c =
    let told : Operators = g.O.Tells.tells c.args.ops.now in
    let before : Before = before_of c.args.at.now.statements.now c.args.at.now.headings.now in
    let s = c.args.select.now in
    let outer : List Input → List Joined → Found = λ inputs sources. record none { is_missing = is_combiner_missing told (side_of sources); is_refused = not (outer_taken told inputs sources) } in
    let seen : View → Seen = λ v. record {
      found = either (in_asked (asked_by_select s v)) (outer v.inputs s.sources);
      is_star_double = is_star_double v.inner s.items;
      count = select_count told c.args.at.now.all.now before c.args.at.now.counts.now s v;
    } in
    let view = c.args.view.now in
    ap₂ (λ (f : Found) (n : ℕ). record { found = f; is_star_double = c.is_star_double.result; count = n })
    (c.or.ensures ∙ ap₂ either c.in_ok-asked.ensures (c.in_ok-own.ensures ∙ ap₂ outer c.as_slice.ensures c.as_slice-2.ensures)) c.in_ok-count.ensures
    ∙ ap (λ (b : Bool). record (seen view) { is_star_double = b }) c.is_star_double.ensures
    ∙ ap seen c.requires
