-- What is found of operators by their names.
use Rattle.std.proofs.Common.{◌≡◌, ℕ, Bool, List, [], ◌++◌, Option, Some, None, sym, ap, ◌∙◌, slice_get}
use Rattle.std.specs.Option.{option_map_or, option_and_then}
use Rattle.scope_value.specs.declared.schema.Column.{Column}
use Rattle.user_ops.specs.Told.{ToldExtractor, Operators}
use Rattle.user_ops.specs.Extracts.{AppendsWhole}
use Rattle.names_in_sight.specs.Operators.{place_in, inline_columns}

-- fixed columns that are added to nothing
pub whole : (fixed : Option (List Column)) (has : Bool) (old new : List Column) → AppendsWhole fixed has old new → old ≡ [] → new ≡ option_map_or (λ cs. cs) fixed []
whole None has old new added none = added.1 ∙ none
whole (Some cs) has old new added none = added.1 ∙ ap (λ (o : List Column). o ++ cs) none

-- the extractor at the place of a name
pub inline_at : (ops : Operators) (name : List ℕ) (place : ℕ) (e : ToldExtractor) → Some place ≡ place_in ops.extractor_names name → slice_get ops.extractors place ≡ Some e
    → option_map_or (λ cs. cs) e.fixed_columns [] ≡ inline_columns ops name
inline_at ops name place e found at =
    ap (λ (o : Option ToldExtractor). option_map_or (λ cs. cs) (option_and_then (λ t. t.fixed_columns) o) []) (sym at)
    ∙ ap (λ (o : Option ℕ). option_map_or (λ cs. cs) (option_and_then (λ t. t.fixed_columns) (option_and_then (λ p. slice_get ops.extractors p) o)) []) found
