-- The facts of an expression hold of each bag that stands for it.
use Rattle.std.proofs.Common.{◌≡◌, ◌≢◌, ℕ, ◌<◌, Bool, true, false, if◌then◌else◌, List, [], ◌∷◌, map, filter, flat_map, length, refl, sym, ap, ◌∙◌, subst, ◌⊎◌, inl, inr, Option, Some, None, slice_get, unwrap_or}
use Rattle.std.specs.Prelude.{Contains, All, IfSome, IsSome, IsSomeAnd, IsPermutation, position, slice_index_or, option_map}
use Rattle.std.specs.Option.{option_and_then, option_map_or}
use Rattle.std.specs.List.{list_all}
use Rattle.std.specs.Ordering.{eq_by_cmp}
use Rattle.std.proofs.lemmas.List.{length-map}
use Rattle.std.proofs.lemmas.List.Elements.{All-contains, Contains-append_left}
use Rattle.std.proofs.lemmas.List.Quantifiers.{position-Some}
use Rattle.std.proofs.lemmas.List.Sorted.{Contains-permutation, IsPermutation-sym}
use Rattle.std.proofs.lemmas.Option.{slice_get-map, slice_get-get_or, get_or_from_slice_get, slice_get_within}
use Rattle.scope_value.specs.declared.value.Value.{Value}
use Rattle.scope_value.specs.declared.value.Value.TheVariants.{Null}
use Rattle.scope_value.specs.Order.{value_cmp, value_eq-decides}
use Rattle.scope_value.specs.Keys.{column}
use Rattle.col_sets.specs.Sets.{has, union, rank, IsColumnSet}
use Rattle.col_sets.specs.Columns.{has_below, has_union, columns_where-set}
use Rattle.col_sets.specs.Tests.{both, from_test}
use Rattle.structural_props.specs.Actions.{In}
use Rattle.structural_props.specs.Stand.{in_filter}
use Rattle.structural_props.specs.Rows.{value_at, key_of, IsRowOver}
use Rattle.structural_props.specs.Agree.{agree_of}
use Rattle.structural_props.specs.WholeRows.{whole_rows}
use Rattle.script_trees.specs.declared.op.PairOp.TheVariants.{And, Eq}
use Rattle.scope_expr.specs.declared.expr.Expr.{Expr, end_of-Expr, more_of-Expr}
use Rattle.scope_expr.specs.declared.expr.Expr.TheVariants.{Literal, Col, Neg', Not', Pair'}
use Rattle.scope_expr.specs.Value as expr
use Rattle.fd_closure.specs.declared.facts.Facts.{Facts}
use Rattle.fd_closure.specs.Known.{by_of, equal_of}
use Rattle.fd_closure.specs.Laws.{equal_parts}
use Rattle.fd_closure.specs.Hold as hold
use Rattle.fd_closure.specs.Hold.{FactsHold, OneValue, Depends, Agree}
use Rattle.user_ops.specs.Told.{Operators}
use Rattle.logical_trees.specs.declared.agg.Agg.{Agg}
use Rattle.logical_trees.specs.declared.args.GroupArgs.{GroupArgs}
use Rattle.logical_trees.specs.declared.args.TopArgs.{TopArgs}
use Rattle.logical_trees.specs.declared.logic_op.LogicOp.{LogicOp}
use Rattle.logical_trees.specs.declared.logic_op.LogicOp.TheVariants.{Ref, Filter, Project, Join, Group, Process, Reduce, Combine, Top, Partial, Finish, LocalTop, LastTop}
use Rattle.logical_trees.specs.Tree.{Expression, leaf, one, two, group_columns, columns_of}
use Rattle.logical_trees.specs.Rows.{Row, Bag, projected, agree_on, merged, joined, with_key, keys_among, in_order, first_rows, group_row, rows_of_keys, group_keys, partial_rows, whole_value, partial_value, finished_value}
use Rattle.logical_trees.specs.Meaning.{Sources, bag_at, StandsFor}
use Rattle.logical_trees.specs.Formed.{IsGroup, IsJoin, IsFormed}
use Rattle.logical_dag.specs.Laws.{LentHold, HoldOf, lent_columns}
use Rattle.logical_dag.specs.Known.{IsLentSet}
use Rattle.logical_dag.specs.Facts.{IsLinked, stated, itself, turned, chained, IsColumnAndLiteral, AreColumns, SetsConstant, SetsEqual, is_column, is_literal, ref_name, item_name, key_name, Renamed, BothRenamed, IsRenamedSet, DependencyRenamed, IsAggregate, AreSameItem, IsConstant, Determines, AreEqual, AreFactsOf}
use Rattle.list_lemmas.specs.Members.{in_list, list_in, in_moved, in_sorted, in_first, in_map, in_flat_map, flat_map_in, in_distinct}
use Rattle.logical_trees.specs.RowLemmas.{value_over}
use Rattle.logical_trees.specs.GroupRowLemmas.{group_row-key}
use Rattle.logical_trees.specs.ColumnLemmas.{rank_at, columns_set}
use Rattle.logical_dag.proofs.Either.{from_either}
use Rattle.logical_dag.proofs.KnownColumns.{AreAbout, known_about, from_conjunct, ref_source, key_source}

-- facts of each kind hold of rows over these columns
pub record HoldOver (C : ℕ → Type 0) (D : List ℕ → ℕ → Type 0) (E : ℕ → ℕ → Type 0) (cols : List ℕ) (rows : Bag) : Type 0 where
  pub constants : (c : ℕ) → C c → OneValue cols rows c
  pub determined : (s : List ℕ) (c : ℕ) → D s c → Depends cols rows s c
  pub equal : (c d : ℕ) → E c d → hold.AreEqual cols rows c d

-- what chains link is equal where what is stated is
pub linked_hold : (P : ℕ → ℕ → Type 0) (cols : List ℕ) (rows : Bag) → ((c d : ℕ) → P c d → hold.AreEqual cols rows c d) → (c d : ℕ) → IsLinked P c d → hold.AreEqual cols rows c d
linked_hold P cols rows h c d (stated p) = h c d p
linked_hold P cols rows h c d itself = λ x m. refl
linked_hold P cols rows h c d (turned l) = λ x m. sym (linked_hold P cols rows h d c l x m)
linked_hold P cols rows h c d (chained {d = e} l k) = λ x m. linked_hold P cols rows h c e l x m ∙ linked_hold P cols rows h e d k x m

module _ {C : ℕ → Type 0} {D : List ℕ → ℕ → Type 0} {E : ℕ → ℕ → Type 0} (cols : List ℕ) (A : Bag) (h : HoldOver C D E cols A) where
  -- each named column of a row has the value that the column has in a row of the list
  abbrev pub IsMadeUnder : (ℕ → Option ℕ) → List ℕ → Bag → Type 0
  IsMadeUnder name made B = (y : Row) → Contains B y → (b c : ℕ) → name b ≡ Some c
      → (x : Row) × Contains A x × ((b c : ℕ) → name b ≡ Some c → value_at made y c ≡ value_at cols x b)

  -- renamed facts hold of rows that are made of those of the list
  pub renamed_hold : (name : ℕ → Option ℕ) (made : List ℕ) (B : Bag) → IsMadeUnder name made B → HoldOver (Renamed name C) (DependencyRenamed name D) (IsLinked (BothRenamed name E)) made B
  renamed_hold name made B from = record {
    constants = λ c p x y m n.
        let o = from x m p.0 c p.2 in
        let q = from y n p.0 c p.2 in
        o.2 p.0 c p.2 ∙ h.constants p.0 p.1 o.0 q.0 o.1 q.1 ∙ sym (q.2 p.0 c p.2);
    determined = λ s c p x y m n same.
        let o = from x m p.1 c p.3 in
        let q = from y n p.1 c p.3 in
        let agree : Agree cols p.0 o.0 q.0 = λ b k. below s p.0 p.4 x y o.0 q.0 same o.2 q.2 b k (name b) refl (p.4.all b k) in
        o.2 p.1 c p.3 ∙ h.determined p.0 p.1 p.2 o.0 q.0 o.1 q.1 agree ∙ sym (q.2 p.1 c p.3);
    equal = linked_hold (BothRenamed name E) made B (λ c d p x m.
        let o = from x m p.0 c p.3 in
        o.2 p.0 c p.3 ∙ h.equal p.0 p.1 p.2 o.0 o.1 ∙ sym (o.2 p.1 d p.4));
  }
    where
      below : (s r : List ℕ) → IsRenamedSet name r s → (x y o q : Row) → Agree made s x y
          → ((b c : ℕ) → name b ≡ Some c → value_at made x c ≡ value_at cols o b) → ((b c : ℕ) → name b ≡ Some c → value_at made y c ≡ value_at cols q b)
          → (b : ℕ) → has r b ≡ true → (n : Option ℕ) → name b ≡ n → IsSome n → value_at cols o b ≡ value_at cols q b
      below s r set x y o q same f g b k None e some = absurd (cc)
      below s r set x y o q same f g b k (Some c) e some = sym (f b c e) ∙ same c ((set.just c).1 (b, k, e)) ∙ g b c e

  -- and beside them what else holds of these rows
  pub above_hold : (name : ℕ → Option ℕ) (made : List ℕ) (B : Bag) → IsMadeUnder name made B → (K : ℕ → Type 0) (L : List ℕ → ℕ → Type 0) (M : ℕ → ℕ → Type 0) → ((c : ℕ) → K c → OneValue made B c)
      → ((s : List ℕ) (c : ℕ) → L s c → Depends made B s c) → ((c d : ℕ) → M c d → hold.AreEqual made B c d)
      → HoldOver (λ c. Renamed name C c ⊎ K c) (λ s c. DependencyRenamed name D s c ⊎ L s c) (IsLinked (λ a b. BothRenamed name E a b ⊎ M a b)) made B
  above_hold name made B from K L M constants determined equal =
      let plain = renamed_hold name made B from in
      record {
        constants = λ c. from_either (plain.constants c) (constants c);
        determined = λ s c. from_either (plain.determined s c) (determined s c);
        equal = linked_hold (λ a b. BothRenamed name E a b ⊎ M a b) made B (λ c d. from_either (λ m. plain.equal c d (stated m)) (equal c d));
      }

  -- facts of a list hold of one without other rows
  pub kept_hold : (B : Bag) → ((x : Row) → Contains B x → Contains A x) → (K : ℕ → Type 0) (M : ℕ → ℕ → Type 0) → ((c : ℕ) → K c → OneValue cols B c) → ((c d : ℕ) → M c d → hold.AreEqual cols B c d)
      → HoldOver (λ c. Renamed Some C c ⊎ K c) (λ s c. DependencyRenamed Some D s c ⊎ ⊥) (IsLinked (λ a b. BothRenamed Some E a b ⊎ M a b)) cols B
  kept_hold B sub K M constants equal =
      above_hold Some cols B (λ y m b c e. (y, sub y m, λ b c e. let same : b ≡ c = cc in ap (value_at cols y) (sym same))) K (λ s c. ⊥) M constants (λ s c n. absurd n) equal

-- a predicate that holds has `&&` of predicates that hold
both_hold : (cols : List ℕ) (row : Row) (s a t b : _) → expr.holds (Pair' And s (more_of-Expr a end_of-Expr) t (more_of-Expr b end_of-Expr)) cols row ≡ true
    → (expr.holds a cols row ≡ true) × (expr.holds b cols row ≡ true)
both_hold cols row s a t b h = both _ _ h

-- an equation that holds has sides of one value
sides_same : (cols : List ℕ) (row : Row) (s a t b : _) → expr.holds (Pair' Eq s (more_of-Expr a end_of-Expr) t (more_of-Expr b end_of-Expr)) cols row ≡ true
    → expr.value a cols row ≡ expr.value b cols row
sides_same cols row s a t b h = (value_eq-decides (expr.value a cols row) (expr.value b cols row)).0 h

-- rows for which an equation of a column and a literal holds have one value in the column
literal_same : (cols : List ℕ) (x y : Row) (c : ℕ) (a b : Expr) → IsColumnAndLiteral c a b → expr.value a cols x ≡ expr.value b cols x → expr.value a cols y ≡ expr.value b cols y
    → value_at cols x c ≡ value_at cols y c
literal_same cols x y c (Col d k) (Literal v) e f g = subst (λ (i : ℕ). value_at cols x i ≡ value_at cols y i) (sym e) (f ∙ sym g)
literal_same cols x y c (Literal v) (Col d k) e f g = subst (λ (i : ℕ). value_at cols x i ≡ value_at cols y i) (sym e) (sym f ∙ g)
literal_same cols x y c (Literal v) b e f g = absurd e
literal_same cols x y c (Col d k) b e f g = absurd e
literal_same cols x y c (Neg' s a) b e f g = absurd e
literal_same cols x y c (Not' s a) b e f g = absurd e
literal_same cols x y c (Pair' op s a t b) d e f g = absurd e

-- a row for which an equation of columns holds has one value in both
columns_same : (cols : List ℕ) (x : Row) (c d : ℕ) (a b : Expr) → AreColumns c d a b → expr.value a cols x ≡ expr.value b cols x → value_at cols x c ≡ value_at cols x d
columns_same cols x c d (Col i j) (Col k l) e f = ap (value_at cols x) e.0 ∙ f ∙ ap (value_at cols x) (sym e.1)
columns_same cols x c d (Col i j) b e f = absurd e
columns_same cols x c d (Literal v) b e f = absurd e
columns_same cols x c d (Neg' s a) b e f = absurd e
columns_same cols x c d (Not' s a) b e f = absurd e
columns_same cols x c d (Pair' op s a t b) k e f = absurd e

-- what a predicate sets constant is so in rows of which it holds
set_constant : (cols : List ℕ) (e : Expr) (c : ℕ) (x y : Row) → SetsConstant e c → expr.holds e cols x ≡ true → expr.holds e cols y ≡ true → value_at cols x c ≡ value_at cols y c
set_constant cols e c x y h f g =
    from_conjunct (IsColumnAndLiteral c) (λ e. (expr.holds e cols x ≡ true) × (expr.holds e cols y ≡ true)) (value_at cols x c ≡ value_at cols y c)
    (λ s a t b q. let p = both_hold cols x s a t b q.0 in let r = both_hold cols y s a t b q.1 in ((p.0, r.0), (p.1, r.1)))
    (λ s a t b r q. literal_same cols x y c a b r (sides_same cols x s a t b q.0) (sides_same cols y s a t b q.1))
    e h (f, g)

-- and what it sets equal
set_equal : (cols : List ℕ) (e : Expr) (c d : ℕ) (x : Row) → SetsEqual e c d → expr.holds e cols x ≡ true → value_at cols x c ≡ value_at cols x d
set_equal cols e c d x h f =
    from_conjunct (AreColumns c d) (λ e. expr.holds e cols x ≡ true) (value_at cols x c ≡ value_at cols x d)
    (both_hold cols x)
    (λ s a t b r q. columns_same cols x c d a b r (sides_same cols x s a t b q))
    e h f

module _ (C : ℕ → Type 0) (D : List ℕ → ℕ → Type 0) (E : ℕ → ℕ → Type 0) (cols : List ℕ) (A B : Bag) (h : HoldOver C D E cols A) where
  -- the facts of a filter hold of rows that pass it
  filter_hold : (e : Expr) → IsPermutation (filter (expr.holds e cols) A) B
      → HoldOver (λ c. Renamed Some C c ⊎ SetsConstant e c) (λ s c. DependencyRenamed Some D s c ⊎ ⊥) (IsLinked (λ a b. BothRenamed Some E a b ⊎ SetsEqual e a b)) cols B
  filter_hold e p =
      kept_hold cols A h B (λ x m. list_in A x (passed x m).0) (SetsConstant e) (SetsEqual e) (λ c k x y m n. set_constant cols e c x y k (passed x m).1 (passed y n).1) (λ c d k x m. set_equal cols e c d x k (passed x m).1)
    where
      passed : (x : Row) → Contains B x → In x A × (expr.holds e cols x ≡ true)
      passed x m = in_filter (expr.holds e cols) x A (in_moved x B (filter (expr.holds e cols) A) (IsPermutation-sym (filter (expr.holds e cols) A) B p) (in_list B x m))

  -- the value of an item's column on the row that the items make
  projected_at : (items : List Expr) (made : List ℕ) (i c : ℕ) (e : Expr) (x : Row) → IsColumnSet made → slice_get made i ≡ Some c → slice_get items i ≡ Some e
      → value_at made (projected items cols x) c ≡ expr.value e cols x
  projected_at items made i c e x set at is =
      ap (λ k. column k (projected items cols x)) (rank_at made i c set at)
      ∙ ap (λ o. unwrap_or o Null) (slice_get-map (λ e. expr.value e cols x) items i ∙ ap (option_map (λ e. expr.value e cols x)) is)

  -- an item that is a plain column
  item_column : (b : ℕ) (e : Expr) (x : Row) → is_column b e ≡ true → expr.value e cols x ≡ value_at cols x b
  item_column b (Col d k) x t = ap (value_at cols x) (sym (from_test b d t))
  item_column b (Literal v) x t = absurd (cc)
  item_column b (Neg' s a) x t = absurd (cc)
  item_column b (Not' s a) x t = absurd (cc)
  item_column b (Pair' op s a u d) x t = absurd (cc)

  -- an item that is a literal
  item_literal : (e : Expr) (x y : Row) → is_literal e ≡ true → expr.value e cols x ≡ expr.value e cols y
  item_literal (Literal v) x y t = refl
  item_literal (Col d k) x y t = absurd (cc)
  item_literal (Neg' s a) x y t = absurd (cc)
  item_literal (Not' s a) x y t = absurd (cc)
  item_literal (Pair' op s a u d) x y t = absurd (cc)

  -- the facts of a projection hold of the rows that the items make
  project_hold : (items : List Expr) (made : List ℕ) → IsColumnSet made → IsPermutation (map (projected items cols) A) B
      → HoldOver (λ c. Renamed (item_name items made) C c ⊎ ((i : ℕ) × (slice_get made i ≡ Some c) × IsSomeAnd (slice_get items i) (λ e. is_literal e ≡ true)))
      (λ s c. DependencyRenamed (item_name items made) D s c ⊎ ⊥) (IsLinked (λ a b. BothRenamed (item_name items made) E a b ⊎ AreSameItem items made a b)) made B
  project_hold items made set p =
      above_hold cols A h (item_name items made) made B (λ y m b c e.
      let o = source y m in
      (o.0, list_in A o.0 o.1, λ b c e. ap (λ r. value_at made r c) o.2 ∙ named o.0 b c e))
      (λ c. (i : ℕ) × (slice_get made i ≡ Some c) × IsSomeAnd (slice_get items i) (λ e. is_literal e ≡ true)) (λ s c. ⊥) (AreSameItem items made) constants (λ s c n. absurd n) equal
    where
      source : (y : Row) → Contains B y → (x : Row) × In x A × (y ≡ projected items cols x)
      source y m = in_map (projected items cols) A y (in_moved y B (map (projected items cols) A) (IsPermutation-sym (map (projected items cols) A) B p) (in_list B y m))

      -- the plain column of an item at a place
      column_at : (x : Row) (i b c : ℕ) → slice_get made i ≡ Some c → IsSomeAnd (slice_get items i) (λ e. is_column b e ≡ true) → value_at made (projected items cols x) c ≡ value_at cols x b
      column_at x i b c at is = go (slice_get items i) refl is
        where
          go : (o : Option Expr) → slice_get items i ≡ o → IsSomeAnd o (λ e. is_column b e ≡ true) → value_at made (projected items cols x) c ≡ value_at cols x b
          go None e k = absurd k
          go (Some item) e k = projected_at items made i c item x set at e ∙ item_column b item x k

      literal_at : (x y : Row) (i c : ℕ) → slice_get made i ≡ Some c → IsSomeAnd (slice_get items i) (λ e. is_literal e ≡ true)
          → value_at made (projected items cols x) c ≡ value_at made (projected items cols y) c
      literal_at x y i c at is = go (slice_get items i) refl is
        where
          go : (o : Option Expr) → slice_get items i ≡ o → IsSomeAnd o (λ e. is_literal e ≡ true) → value_at made (projected items cols x) c ≡ value_at made (projected items cols y) c
          go None e k = absurd k
          go (Some item) e k = projected_at items made i c item x set at e ∙ item_literal item x y k ∙ sym (projected_at items made i c item y set at e)

      -- the first item that is the column
      named : (x : Row) (b c : ℕ) → item_name items made b ≡ Some c → value_at made (projected items cols x) c ≡ value_at cols x b
      named x b c e = go (position (is_column b) items) refl e
        where
          go : (o : Option ℕ) → position (is_column b) items ≡ o → option_and_then (slice_get made) o ≡ Some c → value_at made (projected items cols x) c ≡ value_at cols x b
          go None f k = absurd (cc)
          go (Some i) f k =
              let first = position-Some (is_column b) items i (Literal Null) f in
              column_at x i b c k (subst (λ (o : Option Expr). IsSomeAnd o (λ e. is_column b e ≡ true)) (sym (slice_get-get_or items i (Literal Null) first.0)) first.1)

      constants : (c : ℕ) → (i : ℕ) × (slice_get made i ≡ Some c) × IsSomeAnd (slice_get items i) (λ e. is_literal e ≡ true) → OneValue made B c
      constants c k = λ x y m n.
          let o = source x m in
          let q = source y n in
          ap (λ r. value_at made r c) o.2 ∙ literal_at o.0 q.0 k.0 c k.1 k.2 ∙ sym (ap (λ r. value_at made r c) q.2)

      equal : (c d : ℕ) → AreSameItem items made c d → hold.AreEqual made B c d
      equal c d k = λ y m.
          let o = source y m in
          ap (λ r. value_at made r c) o.2 ∙ column_at o.0 k.0 k.2 c k.3 k.5 ∙ sym (column_at o.0 k.1 k.2 d k.4 k.6) ∙ sym (ap (λ r. value_at made r d) o.2)

-- the keys of groups are of rows, but for the one of no columns
group_key_from : (cols keys : List ℕ) (A : Bag) (k : Row) → In k (group_keys cols keys A) → (c : ℕ) → has keys c ≡ true → (r : Row) × In r A × (k ≡ key_of cols keys r)
group_key_from cols [] A k m c h = absurd (cc)
group_key_from cols (d ∷ keys) A k m c h = in_map (key_of cols (d ∷ keys)) A k (in_distinct (map (key_of cols (d ∷ keys)) A) k m)

-- they have a value for each column of the key
group_key_over : (cols keys : List ℕ) (A : Bag) (k : Row) → In k (group_keys cols keys A) → IsRowOver keys k
group_key_over cols [] A k (inl e) = ap length e
group_key_over cols [] A k (inr m) = absurd m
group_key_over cols (d ∷ keys) A k m =
    let o = in_map (key_of cols (d ∷ keys)) A k (in_distinct (map (key_of cols (d ∷ keys)) A) k m) in ap length o.2 ∙ length-map (d ∷ keys) (value_at cols o.0)

-- without columns there is one key
one_group_key : (cols keys : List ℕ) (A : Bag) (k : Row) → keys ≡ [] → In k (group_keys cols keys A) → k ≡ []
one_group_key cols [] A k e (inl m) = m
one_group_key cols [] A k e (inr m) = absurd m
one_group_key cols (d ∷ keys) A k e m = absurd (cc)

module _ (args : GroupArgs) (group : IsGroup args) (cols : List ℕ) where
  -- the row of a group has the values of a row that has its key
  row_at : (value_of : Agg → Value) (x : Row) (c : ℕ) → has args.keys c ≡ true → value_at (group_columns args) (group_row args value_of (key_of cols args.keys x)) c ≡ value_at cols x c
  row_at value_of x c h = group_row-key args group value_of (key_of cols args.keys x) c h ∙ value_over args.keys (value_at cols x) c group.key_set h

  -- by the names of the key
  named_at : (value_of : Agg → Value) (x : Row) (b c : ℕ) → key_name args.keys b ≡ Some c
      → value_at (group_columns args) (group_row args value_of (key_of cols args.keys x)) c ≡ value_at cols x b
  named_at value_of x b c e =
      let k = key_source args.keys b c e in
      subst (λ (i : ℕ). value_at (group_columns args) (group_row args value_of (key_of cols args.keys x)) i ≡ value_at cols x b) k.1 (row_at value_of x b k.0)

  module _ (C : ℕ → Type 0) (D : List ℕ → ℕ → Type 0) (E : ℕ → ℕ → Type 0) (A B : Bag) (h : HoldOver C D E cols A) where
    -- the row of a key
    abbrev key_row : (Agg → Bag → Value) → Row → Row
    key_row value_of k = group_row args (λ a. value_of a (with_key cols args.keys k A)) k

    -- the facts of a group hold of the rows of its keys
    group_hold : (value_of : Agg → Bag → Value) → IsPermutation (rows_of_keys args cols value_of (group_keys cols args.keys A) A) B
        → HoldOver (λ c. Renamed (key_name args.keys) C c ⊎ ((args.keys ≡ []) × IsAggregate args c))
        (λ s c. DependencyRenamed (key_name args.keys) D s c ⊎ ((args.keys ≢ []) × (s ≡ args.keys) × IsAggregate args c))
        (IsLinked (λ a b. BothRenamed (key_name args.keys) E a b ⊎ ⊥)) (group_columns args) B
    group_hold value_of p =
        above_hold cols A h (key_name args.keys) (group_columns args) B (λ y m b c e.
        let o = source y m in
        let r = group_key_from cols args.keys A o.0 o.1 b (key_source args.keys b c e).0 in
        (r.0, list_in A r.0 r.1, λ b c e. ap (λ r. value_at (group_columns args) r c) (o.2 ∙ ap (group_row args (λ a. value_of a (with_key cols args.keys o.0 A))) r.2) ∙ named_at (λ a. value_of a (with_key cols args.keys o.0 A)) r.0 b c e))
        (λ c. (args.keys ≡ []) × IsAggregate args c) (λ s c. (args.keys ≢ []) × (s ≡ args.keys) × IsAggregate args c) (λ c d. ⊥) constants determined (λ c d n. absurd n)
      where
        source : (y : Row) → Contains B y → (k : Row) × In k (group_keys cols args.keys A) × (y ≡ key_row value_of k)
        source y m = in_map (key_row value_of) (group_keys cols args.keys A) y
            (in_moved y B _ (IsPermutation-sym (rows_of_keys args cols value_of (group_keys cols args.keys A) A) B p) (in_list B y m))

        constants : (c : ℕ) → (args.keys ≡ []) × IsAggregate args c → OneValue (group_columns args) B c
        constants c k = λ x y m n.
            let o = source x m in
            let q = source y n in
            let same : o.0 ≡ q.0 = one_group_key cols args.keys A o.0 k.0 o.1 ∙ sym (one_group_key cols args.keys A q.0 k.0 q.1) in
            ap (λ r. value_at (group_columns args) r c) (o.2 ∙ ap (key_row value_of) same ∙ sym q.2)

        -- rows that agree on the key are one
        one_row : (x y : Row) → Contains B x → Contains B y → Agree (group_columns args) args.keys x y → x ≡ y
        one_row x y m n same =
            let o = source x m in
            let q = source y n in
            let each : (c : ℕ) → has args.keys c ≡ true → value_at args.keys o.0 c ≡ value_at args.keys q.0 c =
            λ c t.
            sym (group_row-key args group (λ a. value_of a (with_key cols args.keys o.0 A)) o.0 c t)
            ∙ ap (λ r. value_at (group_columns args) r c) (sym o.2)
            ∙ same c t
            ∙ ap (λ r. value_at (group_columns args) r c) q.2
            ∙ group_row-key args group (λ a. value_of a (with_key cols args.keys q.0 A)) q.0 c t
            in
            let keys : o.0 ≡ q.0 =
            whole_rows args.keys group.key_set o.0 q.0 (group_key_over cols args.keys A o.0 o.1) (group_key_over cols args.keys A q.0 q.1) (agree_of args.keys args.keys o.0 q.0 each)
            in
            o.2 ∙ ap (key_row value_of) keys ∙ sym q.2

        determined : (s : List ℕ) (c : ℕ) → (args.keys ≢ []) × (s ≡ args.keys) × IsAggregate args c → Depends (group_columns args) B s c
        determined s c k = λ x y m n same.
            ap (λ r. value_at (group_columns args) r c) (one_row x y m n (subst (λ (r : List ℕ). Agree (group_columns args) r x y) k.1 same))

    -- and of the rows of the keys of parts
    partial_hold : (parts : List Bag) → IsPermutation (flat_map (λ part. part) parts) A → IsPermutation (flat_map (partial_rows args cols) parts) B
        → HoldOver (λ c. Renamed (key_name args.keys) C c ⊎ ⊥) (λ s c. DependencyRenamed (key_name args.keys) D s c ⊎ ⊥) (IsLinked (λ a b. BothRenamed (key_name args.keys) E a b ⊎ ⊥)) (group_columns args) B
    partial_hold parts p q = above_hold cols A h (key_name args.keys) (group_columns args) B (λ y m b c e.
        let part = in_flat_map (partial_rows args cols) parts y (in_moved y B _ (IsPermutation-sym (flat_map (partial_rows args cols) parts) B q) (in_list B y m)) in
        let row : Row → Row = λ k. group_row args (λ a. partial_value cols a (with_key cols args.keys k part.0)) k in
        let k = in_map row (keys_among cols args.keys part.0) y part.2 in
        let r = in_map (key_of cols args.keys) part.0 k.0 (in_distinct (map (key_of cols args.keys) part.0) k.0 k.1) in
        let there : Contains A r.0 = Contains-permutation (flat_map (λ part. part) parts) A r.0 p (list_in _ r.0 (flat_map_in (λ part. part) parts part.0 r.0 part.1 r.1)) in
        let value_of : Agg → Value = λ a. partial_value cols a (with_key cols args.keys k.0 part.0) in
        (r.0, there, λ b c e. ap (λ r. value_at (group_columns args) r c) (k.2 ∙ ap (group_row args value_of) r.2) ∙ named_at value_of r.0 b c e))
        (λ c. ⊥) (λ s c. ⊥) (λ c d. ⊥) (λ c n. absurd n) (λ s c n. absurd n) (λ c d n. absurd n)

-- what a list has passes where all do
passes : {X : Type 0} (p : X → Bool) (xs : List X) (x : X) → list_all p xs ≡ true → In x xs → p x ≡ true
passes p [] x h m = absurd m
passes p (y ∷ ys) x h (inl e) = ap p e ∙ (both (p y) (list_all p ys) h).0
passes p (y ∷ ys) x h (inr m) = passes p ys x (both (p y) (list_all p ys) h).1 m

module _ (on : List (ℕ × ℕ)) (left right : List ℕ) (set : IsColumnSet left) (other : IsColumnSet right) (join : IsJoin left right on) (A B Z : Bag) (p : IsPermutation (joined on left right A B) Z) where
  -- a row of a join is of a row on each side
  record Sides (y : Row) : Type 0 where
    one : Row
    second : Row
    there : Contains A one
    beside : Contains B second
    agree : agree_on on left right one second ≡ true
    made : y ≡ merged left right one second

  sides_of : (y : Row) → Contains Z y → Sides y
  sides_of y m =
      let r = in_flat_map (λ r. map (merged left right r) (filter (agree_on on left right r) B)) A y (in_moved y Z _ (IsPermutation-sym (joined on left right A B) Z p) (in_list Z y m)) in
      let s = in_map (merged left right r.0) (filter (agree_on on left right r.0) B) y r.2 in
      let k = in_filter (agree_on on left right r.0) s.0 B s.1 in
      record { one = r.0; second = s.0; there = list_in A r.0 r.1; beside = list_in B s.0 k.0; agree = k.1; made = s.2 }

  merged_at : (r s : Row) (c : ℕ) → (has left c ≡ true) ⊎ (has right c ≡ true) → value_at (union left right) (merged left right r s) c ≡ (if has left c then value_at left r c else value_at right s c)
  merged_at r s c h = value_over (union left right) (λ c. if has left c then value_at left r c else value_at right s c) c (columns_where-set _) (has_union left right c (low h) h)
    where
      low : (has left c ≡ true) ⊎ (has right c ≡ true) → c < 128
      low (inl k) = has_below left set c k
      low (inr k) = has_below right other c k

  -- in the columns of the left side the values are the left row's
  left_at : (y : Row) (k : Sides y) (c : ℕ) → has left c ≡ true → value_at (union left right) y c ≡ value_at left k.one c
  left_at y k c h =
      ap (λ r. value_at (union left right) r c) k.made ∙ merged_at k.one k.second c (inl h) ∙ ap (λ b. if b then value_at left k.one c else value_at right k.second c) h

  -- in those of the right side the right row's
  right_at : (y : Row) (k : Sides y) (c : ℕ) → has right c ≡ true → value_at (union left right) y c ≡ value_at right k.second c
  right_at y k c h =
      ap (λ r. value_at (union left right) r c) k.made ∙ merged_at k.one k.second c (inr h) ∙ ap (λ b. if b then value_at left k.one c else value_at right k.second c) (apart (has left c) refl)
    where
      apart : (b : Bool) → has left c ≡ b → has left c ≡ false
      apart true e = absurd (join.apart c e h)
      apart false e = e

  module _ (C K : ℕ → Type 0) (D L : List ℕ → ℕ → Type 0) (E F : ℕ → ℕ → Type 0) (h : HoldOver C D E left A) (k : HoldOver K L F right B) (f : AreAbout C D E left) (g : AreAbout K L F right) where
    -- the facts of both sides hold of a join, and its pairs are equal
    join_hold : HoldOver (λ c. C c ⊎ K c) (λ s c. D s c ⊎ L s c) (IsLinked (λ a b. E a b ⊎ (F a b ⊎ Contains on (a, b)))) (union left right) Z
    join_hold = record { constants = constants; determined = determined; equal = linked_hold (λ a b. E a b ⊎ (F a b ⊎ Contains on (a, b))) (union left right) Z equal }
      where
        constants : (c : ℕ) → C c ⊎ K c → OneValue (union left right) Z c
        constants c (inl i) = λ x y m n.
            let o = sides_of x m in
            let q = sides_of y n in
            left_at x o c (f.constants c i) ∙ h.constants c i o.one q.one o.there q.there ∙ sym (left_at y q c (f.constants c i))
        constants c (inr i) = λ x y m n.
            let o = sides_of x m in
            let q = sides_of y n in
            right_at x o c (g.constants c i) ∙ k.constants c i o.second q.second o.beside q.beside ∙ sym (right_at y q c (g.constants c i))

        determined : (s : List ℕ) (c : ℕ) → D s c ⊎ L s c → Depends (union left right) Z s c
        determined s c (inl i) = λ x y m n same.
            let o = sides_of x m in
            let q = sides_of y n in
            left_at x o c (f.determined s c i)
            ∙ h.determined s c i o.one q.one o.there q.there (λ d t. sym (left_at x o d (f.by s c d i t)) ∙ same d t ∙ left_at y q d (f.by s c d i t))
            ∙ sym (left_at y q c (f.determined s c i))
        determined s c (inr i) = λ x y m n same.
            let o = sides_of x m in
            let q = sides_of y n in
            right_at x o c (g.determined s c i)
            ∙ k.determined s c i o.second q.second o.beside q.beside (λ d t. sym (right_at x o d (g.by s c d i t)) ∙ same d t ∙ right_at y q d (g.by s c d i t))
            ∙ sym (right_at y q c (g.determined s c i))

        equal : (c d : ℕ) → E c d ⊎ (F c d ⊎ Contains on (c, d)) → hold.AreEqual (union left right) Z c d
        equal c d (inl i) = λ x m.
            let o = sides_of x m in
            from_either (λ e. ap (value_at (union left right) x) e) (λ t. left_at x o c t.0 ∙ h.equal c d i o.one o.there ∙ sym (left_at x o d t.1)) (f.equal c d i)
        equal c d (inr (inl i)) = λ x m.
            let o = sides_of x m in
            from_either (λ e. ap (value_at (union left right) x) e) (λ t. right_at x o c t.0 ∙ k.equal c d i o.second o.beside ∙ sym (right_at x o d t.1)) (g.equal c d i)
        equal c d (inr (inr i)) = λ x m.
            let o = sides_of x m in
            let t = All-contains (λ p. (has left p.0 ≡ true) × (has right p.1 ≡ true)) on (c, d) join.sides i in
            let same = passes (λ p. eq_by_cmp value_cmp (value_at left o.one p.0) (value_at right o.second p.1)) on (c, d) o.agree (in_list on (c, d) i) in
            left_at x o c t.0 ∙ (value_eq-decides (value_at left o.one c) (value_at right o.second d)).0 same ∙ sym (right_at x o d t.1)

-- the facts that are lent for a shared result hold under the names of a Ref
ref_hold : (o : Option Facts) (cols : List ℕ) (A B : Bag) → IfSome o (λ f. IsColumnSet f.columns) → IsColumnSet cols → IfSome o (λ f. FactsHold f A) → IsPermutation A B
    → HoldOver (Renamed (ref_name (option_map_or (λ f. f.columns) o []) cols) (λ b. IsSomeAnd o (λ f. has f.constants b ≡ true)))
    (DependencyRenamed (ref_name (option_map_or (λ f. f.columns) o []) cols) (λ r b. IsSomeAnd o (λ f. (has f.determined b ≡ true) × (r ≡ by_of f b))))
    (IsLinked (BothRenamed (ref_name (option_map_or (λ f. f.columns) o []) cols) (λ a b. IsSomeAnd o (λ f. equal_of f a b ≡ true)))) cols B
ref_hold None cols A B of_set set holds p = record {
  constants = λ c k. absurd k.1;
  determined = λ s c k. absurd k.2;
  equal = linked_hold _ cols B (λ c d k. absurd k.2);
}
ref_hold (Some f) cols A B of_set set holds p = record {
  constants = λ c k. renamed.constants c (k.0, (low k.0 c k.2, k.1), k.2);
  determined = λ s c k. renamed.determined s c (k.0, k.1, (low k.1 c k.3, k.2), k.3, k.4);
  equal = renamed.equal;
}
  where
    low : (b c : ℕ) → ref_name f.columns cols b ≡ Some c → b < 128
    low b c e = has_below f.columns of_set b (ref_source f.columns cols b c e).0

    of_result : HoldOver (λ b. (b < 128) × (has f.constants b ≡ true)) (λ r b. (b < 128) × ((has f.determined b ≡ true) × (r ≡ by_of f b))) (λ a b. equal_of f a b ≡ true) f.columns A
    of_result = record {
      constants = λ c k. holds.constants c k.0 k.1;
      determined = λ s c k. subst (λ (r : List ℕ). Depends f.columns A r c) (sym k.1.1) (holds.determined c k.0 k.1.0);
      equal = λ c d k. holds.equal c d k;
    }

    renamed : HoldOver (Renamed (ref_name f.columns cols) (λ b. (b < 128) × (has f.constants b ≡ true))) (DependencyRenamed (ref_name f.columns cols) (λ r b. (b < 128) × ((has f.determined b ≡ true) × (r ≡ by_of f b))))
        (IsLinked (BothRenamed (ref_name f.columns cols) (λ a b. equal_of f a b ≡ true))) cols B
    renamed = renamed_hold f.columns A of_result (ref_name f.columns cols) cols B (λ y m b c e.
        (y, Contains-permutation B A y (IsPermutation-sym A B p) m, λ b c e. ap (λ i. column i y) (rank_at cols (rank f.columns b) c set (ref_source f.columns cols b c e).1)))

-- rows of a sorted list's front are rows of the list
first_in : (args : TopArgs) (cols : List ℕ) (A : Bag) (x : Row) → In x (first_rows args cols A) → Contains A x
first_in args cols A x m = list_in A x (in_sorted _ A x (in_first args.n (in_order cols args.order A) x m))

module _ (shared : List Facts) where
  -- the facts of an expression hold of rows
  abbrev pub KnownOf : Expression → Bag → Type 0
  KnownOf t A = HoldOver (IsConstant shared t) (Determines shared t) (AreEqual shared t) (columns_of t) A

  nothing_hold : (cols : List ℕ) (A : Bag) → HoldOver (λ c. ⊥) (λ s c. ⊥) (IsLinked (λ c d. ⊥)) cols A
  nothing_hold cols A = record { constants = λ c h. absurd h; determined = λ s c h. absurd h; equal = linked_hold (λ c d. ⊥) cols A (λ c d n. absurd n) }

  module _ {C : ℕ → Type 0} {D : List ℕ → ℕ → Type 0} {E : ℕ → ℕ → Type 0} (cols : List ℕ) (A : Bag) (h : HoldOver C D E cols A) where
    -- rows of which no column keeps its name
    renewed : (made : List ℕ) (B : Bag) → HoldOver (λ c. Renamed (λ b. None) C c ⊎ ⊥) (λ s c. DependencyRenamed (λ b. None) D s c ⊎ ⊥) (IsLinked (λ a b. BothRenamed (λ b. None) E a b ⊎ ⊥)) made B
    renewed made B = above_hold cols A h (λ b. None) made B (λ y m b c e. absurd (cc)) (λ c. ⊥) (λ s c. ⊥) (λ c d. ⊥) (λ c n. absurd n) (λ s c n. absurd n) (λ c d n. absurd n)

    -- fewer rows
    fewer : (B : Bag) → ((x : Row) → Contains B x → Contains A x) → HoldOver (λ c. Renamed Some C c ⊎ ⊥) (λ s c. DependencyRenamed Some D s c ⊎ ⊥) (IsLinked (λ a b. BothRenamed Some E a b ⊎ ⊥)) cols B
    fewer B sub = kept_hold cols A h B sub (λ c. ⊥) (λ c d. ⊥) (λ c n. absurd n) (λ c d n. absurd n)

  module _ (ops : Operators) (from : Sources) (lent : LentHold shared from) where
    leaf_hold : (results : List (List ℕ)) (op : LogicOp) (B : Bag) → IsFormed results (leaf op) → IsLentSet shared (leaf op) → StandsFor ops from (leaf op) B → KnownOf (leaf op) B
    leaf_hold results (Ref i cols) B h sets gives = ref_hold (slice_get shared i) cols (bag_at from.shared i) B sets h.0 (lent i) gives
    leaf_hold results op B h sets gives = nothing_hold (columns_of (leaf op)) B

    one_hold : (results : List (List ℕ)) (op : LogicOp) (t : Expression) (B : Bag) → IsFormed results (one op t) → ((A : Bag) → StandsFor ops from t A → KnownOf t A)
        → StandsFor ops from (one op t) B → KnownOf (one op t) B
    one_hold results (Filter e) t B h below gives = filter_hold _ _ _ (columns_of t) gives.0 B (below gives.0 gives.1) e gives.2
    one_hold results (Project items cols) t B h below gives = project_hold _ _ _ (columns_of t) gives.0 B (below gives.0 gives.1) items cols h.1.0 gives.2
    one_hold results (Group args) t B h below gives = group_hold args h.1.0 (columns_of t) _ _ _ gives.0 B (below gives.0 gives.1) (whole_value (columns_of t)) gives.2
    one_hold results (Finish args) t B h below gives = group_hold args h.1 (columns_of t) _ _ _ gives.0 B (below gives.0 gives.1) (finished_value (columns_of t)) gives.2
    one_hold results (Partial args) t B h below gives = partial_hold args h.1.0 (columns_of t) _ _ _ gives.0 B (below gives.0 gives.1) gives.2.0 gives.2.1 gives.2.2
    one_hold results (Process call) t B h below gives = renewed (columns_of t) gives.0 (below gives.0 gives.1) call.cols B
    one_hold results (Reduce call on presort) t B h below gives = renewed (columns_of t) gives.0 (below gives.0 gives.1) call.cols B
    one_hold results (Top args) t B h below gives = fewer (columns_of t) gives.0 (below gives.0 gives.1) B (λ x m. first_in args (columns_of t) gives.0 x (in_moved x B _ (IsPermutation-sym _ B gives.2) (in_list B x m)))
    one_hold results (LastTop args) t B h below gives = fewer (columns_of t) gives.0 (below gives.0 gives.1) B (λ x m. first_in args (columns_of t) gives.0 x (in_moved x B _ (IsPermutation-sym _ B gives.2) (in_list B x m)))
    one_hold results (LocalTop args) t B h below gives =
        fewer (columns_of t) gives.0 (below gives.0 gives.1) B (λ x m. Contains-permutation _ gives.0 x gives.2.2 (Contains-append_left B gives.2.0 x m))
    one_hold results op t B h below gives = absurd gives.2

    two_hold : (results : List (List ℕ)) (op : LogicOp) (t u : Expression) (Z : Bag) → IsFormed results (two op t u)
        → ((A : Bag) → StandsFor ops from t A → KnownOf t A) → ((B : Bag) → StandsFor ops from u B → KnownOf u B) → StandsFor ops from (two op t u) Z → KnownOf (two op t u) Z
    two_hold results (Join on) t u Z h left right gives =
        join_hold on.items (columns_of t) (columns_of u) (columns_set results t h.0) (columns_set results u h.1) h.2 gives.0 gives.1 Z gives.4 _ _ _ _ _ _
        (left gives.0 gives.2) (right gives.1 gives.3) (known_about shared results t h.0) (known_about shared results u h.1)
    two_hold results (Combine call on before beside) t u Z h left right gives = nothing_hold call.cols Z
    two_hold results op t u Z h left right gives = absurd gives.4

    -- the facts of an expression hold of each bag that stands for it
    pub known_hold : (results : List (List ℕ)) (t : Expression) → IsFormed results t → IsLentSet shared t → (A : Bag) → StandsFor ops from t A → KnownOf t A
    known_hold results (leaf op) h sets B gives = leaf_hold results op B h sets gives
    known_hold results (one op t) h sets B gives = one_hold results op t B h (known_hold results t h.0 sets) gives
    known_hold results (two op t u) h sets Z gives = two_hold results op t u Z h (known_hold results t h.0 sets.0) (known_hold results u h.1 sets.1) gives

  -- and so do facts that are those of the expression
  pub facts_hold : (results : List (List ℕ)) (t : Expression) (f : Facts) → IsFormed results t → IsLentSet shared t → AreFactsOf shared t f → HoldOf shared t f
  facts_hold results t f h sets facts ops from A lent stands over = record {
    over = λ x m. over x (in_list A x m) ∙ ap length (sym facts.columns);
    constants = λ c l k. subst (λ (s : List ℕ). OneValue s A c) (sym facts.columns) (known.constants c ((facts.constants c l).0 k));
    determined = λ c l k. subst (λ (s : List ℕ). Depends s A (by_of f c) c) (sym facts.columns) (known.determined (by_of f c) c (facts.stated c l k));
    equal = λ c d k.
        let low = equal_parts f c d k in
        subst (λ (s : List ℕ). hold.AreEqual s A c d) (sym facts.columns) (known.equal c d ((facts.equal c d low.0 low.1).0 k));
  }
    where
      known : KnownOf t A
      known = known_hold ops from lent results t h sets A stands

-- where all that is lent is over sets, so is what an expression refers to
pub lent_sets : (shared : List Facts) (t : Expression) → All IsColumnSet (lent_columns shared) → IsLentSet shared t
lent_sets shared (leaf (Ref i cols)) h = go (slice_get shared i) refl
  where
    go : (o : Option Facts) → slice_get shared i ≡ o → IfSome o (λ f. IsColumnSet f.columns)
    go None e = tt
    go (Some f) e =
        let at : slice_get (lent_columns shared) i ≡ Some f.columns = slice_get-map (λ (f : Facts). f.columns) shared i ∙ ap (option_map (λ (f : Facts). f.columns)) e in
        let is : slice_index_or (lent_columns shared) i [] ≡ f.columns = get_or_from_slice_get (lent_columns shared) i f.columns [] at in
        subst (λ (s : List ℕ). IsColumnSet s) is (h i [] (slice_get_within (lent_columns shared) i f.columns at))
lent_sets shared (leaf op) h = tt
lent_sets shared (one op t) h = lent_sets shared t h
lent_sets shared (two op t u) h = (lent_sets shared t h, lent_sets shared u h)
