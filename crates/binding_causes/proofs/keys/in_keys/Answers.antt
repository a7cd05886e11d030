use Rattle.std.proofs.Common.{◌==◌, nat_lt, ap, sym, ◌∙◌}
use Rattle.std.proofs.lemmas.List.{length-map}
use Rattle.scope_expr.specs.Names.{is_unknown, is_ambiguous}
use Rattle.binding_causes.specs.Columns.{repeats}
use Rattle.binding_causes.proofs.RepeatLemmas.{any_of_map}
use Rattle.binding_causes.proofs.FoundLemmas.{same_found}
use Rattle.binding_causes.proofs.keys.in_keys.Goals as goal

pub returns : goal.returns
returns g c = same_found
    (c.has_double_number.ensures ∙ ap (repeats (λ p q. p == q)) (c.as_slice.ensures.value ∙ c.in_ok-places.ensures))
    (c.has_unknown_key.ensures ∙ sym (any_of_map (is_unknown c.args.names.now) g.T.NamesColumn.named_column c.args.keys.now))
    (c.has_ambiguous_key.ensures ∙ sym (any_of_map (is_ambiguous c.args.names.now) g.T.NamesColumn.named_column c.args.keys.now))
    (ap (λ f. f.is_mismatched) c.none.ensures)
    (ap (λ f. f.is_missing) c.none.ensures)
    (ap (λ f. f.is_refused) c.none.ensures)
    (ap (nat_lt 4) (sym (length-map c.args.keys.now g.T.NamesColumn.named_column)))
    (ap (λ f. f.has_many_args) c.none.ensures)
