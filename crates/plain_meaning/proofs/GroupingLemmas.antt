-- Grouped rows one key at a time.
use Rattle.std.proofs.Common.{◌≡◌, ℕ, List, [], ◌∷◌, ◌++◌, sym, ap, ap₂, ◌∙◌}
use Rattle.std.proofs.lemmas.List.{map-append}
use Rattle.scope_value.specs.declared.value.Value.{Value}
use Rattle.logical_trees.specs.declared.agg.Agg.{Agg}
use Rattle.logical_trees.specs.declared.args.GroupArgs.{GroupArgs}
use Rattle.logical_trees.specs.Rows.{Row, Bag, with_key, group_row, rows_of_keys}

-- one key more
pub rows_step : (args : GroupArgs) (cols key : List ℕ) (value : Agg → Bag → Value) (keys front : List Row) (k row : Row) (rows group made more : Bag)
    → front ≡ keys ++ k ∷ [] → key ≡ args.keys → group ≡ with_key cols key k rows → row ≡ group_row args (λ a. value a group) k
    → made ≡ rows_of_keys args cols value keys rows → more ≡ made ++ row ∷ [] → more ≡ rows_of_keys args cols value front rows
rows_step args cols key value keys front k row rows group made more is_front is_key is_group is_row is_made is_more =
    let own : group ≡ with_key cols args.keys k rows = is_group ∙ ap (λ (c : List ℕ). with_key cols c k rows) is_key in
    is_more ∙ ap₂ (λ m r. m ++ r ∷ []) is_made (is_row ∙ ap (λ (g : Bag). group_row args (λ a. value a g) k) own)
    ∙ sym (map-append (λ k. group_row args (λ a. value a (with_key cols args.keys k rows)) k) keys (k ∷ [])) ∙ ap (λ (ks : List Row). rows_of_keys args cols value ks rows) (sym is_front)
