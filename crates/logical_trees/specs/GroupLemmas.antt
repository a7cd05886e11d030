-- What operators make of a bag is a function of the bag.
use Rattle.std.proofs.Common.{◌≡◌, ℕ, true, List, [], ◌∷◌, take, Option, ap, ap₂, IsPermutation}
use Rattle.std.specs.Ordering.{eq_by_cmp}
use Rattle.std.proofs.lemmas.List.Sorted.{IsPermutation-refl, IsPermutation-trans, IsPermutation-map, IsPermutation-append}
use Rattle.scope_value.specs.declared.value.Value.{Value}
use Rattle.scope_value.specs.Order.{row_cmp}
use Rattle.scope_value.specs.Keys.{keys_cmp_total, keys_cmp-Equal}
use Rattle.col_sets.specs.declared.dir.Dir.{Dir}
use Rattle.structural_props.specs.Rows.{value_at, key_of, items}
use Rattle.user_ops.specs.Told.{Operators, reduces_at, combines_at}
use Rattle.logical_trees.specs.declared.agg.Agg.{Agg}
use Rattle.logical_trees.specs.declared.args.GroupArgs.{GroupArgs}
use Rattle.logical_trees.specs.declared.args.CallArgs.{CallArgs}
use Rattle.logical_trees.specs.declared.args.TopArgs.{TopArgs}
use Rattle.logical_trees.specs.Rows.{Row, Bag, agree_on, merged, joined, with_key, keys_among, in_order, first_rows, argument, partial_value, whole_value, finished_value, fitted, group_row, rows_of_keys, group_keys, grouped, finished, order_of, reduced, left_columns, right_columns, keys_of_both, combined}
use Rattle.logical_trees.specs.AggregateLemmas.{exact_permuted, together_permuted}
use Rattle.list_lemmas.specs.Bags.{same_permuted, filter_permuted, flat_map_permuted, flat_map_each, flat_map_same, map_each}
use Rattle.list_lemmas.specs.Distinct.{distinct_permuted}
use Rattle.scope_value.proofs.SortedLemmas.{sorted_same}

-- ---- orders and keys

-- rows in order, first rows, rows with a key, and keys
pub in_order_permuted : (cols : List ℕ) (order : List (ℕ × Dir)) (A B : Bag) → IsPermutation A B → in_order cols order A ≡ in_order cols order B
in_order_permuted cols order = sorted_same (keys_cmp_total (items cols order) true) (keys_cmp-Equal (items cols order))

pub first_rows_permuted : (args : TopArgs) (cols : List ℕ) (A B : Bag) → IsPermutation A B → first_rows args cols A ≡ first_rows args cols B
first_rows_permuted args cols A B h = ap (take args.n) (in_order_permuted cols args.order A B h)

pub with_key_permuted : (cols key : List ℕ) (k : Row) (A B : Bag) → IsPermutation A B → IsPermutation (with_key cols key k A) (with_key cols key k B)
with_key_permuted cols key k = filter_permuted (λ r. eq_by_cmp row_cmp k (key_of cols key r))

pub keys_among_permuted : (cols key : List ℕ) (A B : Bag) → IsPermutation A B → IsPermutation (keys_among cols key A) (keys_among cols key B)
keys_among_permuted cols key A B h = distinct_permuted _ _ (IsPermutation-map (key_of cols key) A B h)

pub group_keys_permuted : (cols key : List ℕ) (A B : Bag) → IsPermutation A B → IsPermutation (group_keys cols key A) (group_keys cols key B)
group_keys_permuted cols [] A B h = IsPermutation-refl _
group_keys_permuted cols (c ∷ key) A B h = keys_among_permuted cols (c ∷ key) A B h

-- ---- groups

-- the value of an aggregate over rows does not see their order
abbrev pub SeesBags : (Agg → Bag → Value) → Type 0
SeesBags value_of = (agg : Agg) (A B : Bag) → IsPermutation A B → value_of agg A ≡ value_of agg B

-- its partial, whole and finished values do not
pub partial_value_permuted : (cols : List ℕ) → SeesBags (partial_value cols)
partial_value_permuted cols agg A B h = exact_permuted agg.kind _ _ (IsPermutation-map (argument agg.arg cols) A B h)

pub whole_value_permuted : (cols : List ℕ) → SeesBags (whole_value cols)
whole_value_permuted cols agg A B h = ap (fitted agg.kind) (partial_value_permuted cols agg A B h)

pub finished_value_permuted : (cols : List ℕ) → SeesBags (finished_value cols)
finished_value_permuted cols agg A B h = ap (fitted agg.kind) (together_permuted agg.kind _ _ (IsPermutation-map (λ r. value_at cols r agg.id) A B h))

-- so rows of groups are one bag of one bag
pub rows_of_keys_permuted : (args : GroupArgs) (cols : List ℕ) (value_of : Agg → Bag → Value) → SeesBags value_of → (keys others : List Row) (A B : Bag)
    → IsPermutation keys others → IsPermutation A B → IsPermutation (rows_of_keys args cols value_of keys A) (rows_of_keys args cols value_of others B)
rows_of_keys_permuted args cols value_of sees keys others A B h k =
    let same : (key : Row) (a : Agg) → value_of a (with_key cols args.keys key A) ≡ value_of a (with_key cols args.keys key B) =
    λ key a. sees a _ _ (with_key_permuted cols args.keys key A B k) in
    let row : Bag → Row → Row = λ C key. group_row args (λ a. value_of a (with_key cols args.keys key C)) key in
    let rows : (key : Row) → row A key ≡ row B key = λ key i. group_row args (λ a. same key a i) key in
    IsPermutation-trans _ _ _ (IsPermutation-map (row A) keys others h) (same_permuted _ _ (map_each (row A) (row B) rows others))

pub grouped_permuted : (args : GroupArgs) (cols : List ℕ) (A B : Bag) → IsPermutation A B → IsPermutation (grouped args cols A) (grouped args cols B)
grouped_permuted args cols A B h = rows_of_keys_permuted args cols (whole_value cols) (whole_value_permuted cols) _ _ A B (group_keys_permuted cols args.keys A B h) h

pub finished_permuted : (args : GroupArgs) (cols : List ℕ) (A B : Bag) → IsPermutation A B → IsPermutation (finished args cols A) (finished args cols B)
finished_permuted args cols A B h = rows_of_keys_permuted args cols (finished_value cols) (finished_value_permuted cols) _ _ A B (group_keys_permuted cols args.keys A B h) h

-- ---- joins and user operators

-- what joins and user operators give is one bag of one bag
pub joined_permuted : (on : List (ℕ × ℕ)) (left right : List ℕ) (A B C D : Bag) → IsPermutation A B → IsPermutation C D → IsPermutation (joined on left right A C) (joined on left right B D)
joined_permuted on left right A B C D h k =
    IsPermutation-trans _ _ _ (flat_map_permuted _ A B h)
    (flat_map_each _ _ (λ r. IsPermutation-map (merged left right r) _ _ (filter_permuted (agree_on on left right r) C D k)) B)

pub reduced_permuted : (ops : Operators) (cols : List ℕ) (call : CallArgs) (on : List ℕ) (presort : Option (List (ℕ × Dir))) (A B : Bag)
    → IsPermutation A B → IsPermutation (reduced ops cols call on presort A) (reduced ops cols call on presort B)
reduced_permuted ops cols call on presort A B h =
    let rows : Bag → Row → Bag = λ C k. reduces_at ops call.op call.args (in_order cols (order_of presort) (with_key cols on k C)) in
    let same : (k : Row) → rows A k ≡ rows B k =
    λ k. ap (reduces_at ops call.op call.args) (in_order_permuted cols (order_of presort) _ _ (with_key_permuted cols on k A B h)) in
    IsPermutation-trans _ _ _ (flat_map_permuted (rows A) _ _ (keys_among_permuted cols on A B h)) (same_permuted _ _ (flat_map_same (rows A) (rows B) same (keys_among cols on B)))

pub keys_of_both_permuted : (on : List (ℕ × ℕ)) (left right : List ℕ) (A B C D : Bag) → IsPermutation A B → IsPermutation C D → IsPermutation (keys_of_both on left right A C) (keys_of_both on left right B D)
keys_of_both_permuted on left right A B C D h k =
    distinct_permuted _ _ (IsPermutation-append _ _ _ _ (IsPermutation-map (key_of left (left_columns on)) A B h) (IsPermutation-map (key_of right (right_columns on)) C D k))

pub combined_permuted : (ops : Operators) (left right : List ℕ) (call : CallArgs) (on : List (ℕ × ℕ)) (before beside : Option (List (ℕ × Dir))) (A B C D : Bag)
    → IsPermutation A B → IsPermutation C D → IsPermutation (combined ops left right call on before beside A C) (combined ops left right call on before beside B D)
combined_permuted ops left right call on before beside A B C D h k =
    let on_left : Bag → Row → List Row = λ X key. in_order left (order_of before) (with_key left (left_columns on) key X) in
    let on_right : Bag → Row → List Row = λ X key. in_order right (order_of beside) (with_key right (right_columns on) key X) in
    let rows : Bag → Bag → Row → Bag = λ X Y key. combines_at ops call.op call.args (on_left X key) (on_right Y key) in
    let same : (key : Row) → rows A C key ≡ rows B D key =
    λ key. ap₂ (combines_at ops call.op call.args) (in_order_permuted left (order_of before) _ _ (with_key_permuted left (left_columns on) key A B h))
    (in_order_permuted right (order_of beside) _ _ (with_key_permuted right (right_columns on) key C D k)) in
    IsPermutation-trans _ _ _ (flat_map_permuted (rows A C) _ _ (keys_of_both_permuted on left right A B C D h k))
    (same_permuted _ _ (flat_map_same (rows A C) (rows B D) same (keys_of_both on left right B D)))
