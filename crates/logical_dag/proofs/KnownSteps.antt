-- The facts of each kind of node, of those below it.
use Rattle.std.proofs.Common.{◌≡◌, ◌≢◌, ℕ, ◌<◌, ◌≤◌, Bool, true, false, ◌&&◌, List, [], length, refl, sym, ap, ◌∙◌, subst, arith, ◌⊎◌, inl, inr, nat_eq, nat_lt, Option, Some, None, slice_get, slice_index_or}
use Rattle.std.specs.Prelude.{Any, All, Contains, IsSomeAnd, position}
use Rattle.std.specs.Option.{option_and_then}
use Rattle.std.proofs.lemmas.Bool.Decides.{nat_tests}
use Rattle.std.proofs.lemmas.List.{get_or_past, nil_from_length}
use Rattle.std.proofs.lemmas.Option.{get_or_from_slice_get, slice_get_within}
use Rattle.scope_expr.specs.declared.expr.Expr.{Expr}
use Rattle.scope_expr.specs.declared.expr.Expr.TheVariants.{Literal, Col, Neg', Not', Pair'}
use Rattle.col_sets.specs.Sets.{has, union, rank, count, IsColumnSet}
use Rattle.col_sets.specs.Columns.{has_below, has_union, union_has, rank_place}
use Rattle.col_sets.specs.Tests.{both, and_true, from_test, to_test, same_tests}
use Rattle.fd_closure.specs.declared.facts.Facts.{Facts}
use Rattle.fd_closure.specs.Known.{by_of, equal_of}
use Rattle.logical_trees.specs.declared.agg.Agg.{Agg}
use Rattle.logical_trees.specs.declared.args.GroupArgs.{GroupArgs}
use Rattle.logical_dag.specs.declared.naming.Names.{Names}
use Rattle.logical_trees.specs.Tree.{group_columns}
use Rattle.logical_trees.specs.Formed.{IsGroup, IsOver}
use Rattle.logical_trees.specs.declared.logic_op.LogicOp.TheVariants.{Filter, Project, Group}
use Rattle.logical_dag.specs.Facts.{IsLinked, stated, Renamed, BothRenamed, IsRenamedSet, DependencyRenamed, is_column, ref_name, item_name, key_name, SetsConstant, SetsEqual, AreSameItem, IsAggregate, MakesConstant, MakesDependent}
use Rattle.logical_dag.specs.Known.{name_of, IsNaming, IsOwn, IsDependency, AreClasses, AreDependencies, AreConstants, CarriedConstants, CarriedDependencies, CarriedEqualities, AreCarried, IsItem, AreNamed, AreRenamed, AreAbove, AreJoined}
use Rattle.logical_dag.proofs.Either.{either_first, either_second, either_none}
use Rattle.logical_dag.proofs.Classes.{linked_same, linked_none, classes_start, classes_same, classes_moved, classes_chain, classes_kept}
use Rattle.logical_trees.specs.ColumnLemmas.{has_at, rank_at}
use Rattle.logical_dag.proofs.KnownColumns.{ref_source, key_source}
use Rattle.logical_dag.proofs.Constants.{constants_same, constants_chain, constants_moved, constants_kept}
use Rattle.logical_dag.proofs.Dependencies.{dependencies_same, dependencies_moved, dependencies_chain, dependencies_kept}
use Rattle.logical_dag.proofs.ItemFacts.{item_one, first_place}

-- ---- facts under new names

-- of no facts but the columns there are none under new names, whatever they are called
pub blank_named : (from : Facts) (name : ℕ → Option ℕ) (cols : List ℕ) (f : Facts) → f.columns ≡ cols → ((b c : ℕ) → name b ≡ Some c → ⊥) → f.constants ≡ [] → f.determined ≡ [] → ((c d : ℕ) → equal_of f c d ≡ (nat_lt c 128 && nat_eq c d))
    → AreRenamed from name cols f
blank_named from name cols f columns none no_constants no_dependencies equal = record {
  columns = columns;
  constants = λ c l. (λ m. absurd (let k : has [] c ≡ true = subst (λ (s : List ℕ). has s c ≡ true) no_constants m in cc), λ m. absurd (constant c m));
  dependencies = record {
    stated = λ c l m. absurd (let k : has [] c ≡ true = subst (λ (s : List ℕ). has s c ≡ true) no_dependencies m in cc);
    all = λ s c m. absurd (dependency s c m);
  };
  classes = record {
    own = λ c l. equal c c ∙ and_true (nat_lt c 128) (nat_eq c c) (let b : nat_lt c 128 ≡ true = grind (arith, nat_tests) in b) (to_test c c refl);
    there = λ c d m. linked_same _ c d (from_test c d (both (nat_lt c 128) (nat_eq c d) (sym (equal c d) ∙ m)).1);
    back = λ c d m. inl (linked_none _ linked c d m);
  };
}
  where
    constant : (c : ℕ) → Renamed name (λ b. has from.constants b ≡ true) c ⊎ ⊥ → ⊥
    constant c (inl m) = none m.0 c m.2
    constant c (inr m) = m

    dependency : (s : List ℕ) (c : ℕ) → DependencyRenamed name (IsDependency from) s c ⊎ ⊥ → ⊥
    dependency s c (inl m) = none m.1 c m.3
    dependency s c (inr m) = m

    linked : (c d : ℕ) → BothRenamed name (λ a b. equal_of from a b ≡ true) c d ⊎ ⊥ → ⊥
    linked c d (inl m) = none m.0 c m.3
    linked c d (inr m) = m

-- facts that are carried into rows of which nothing is known
pub renamed_plain : (from : Facts) (name : ℕ → Option ℕ) (cols : List ℕ) (into f : Facts) → into.columns ≡ cols → into.constants ≡ [] → into.determined ≡ [] → ((c d : ℕ) → equal_of into c d ≡ (nat_lt c 128 && nat_eq c d))
    → AreCarried from name into f → AreRenamed from name cols f
renamed_plain from name cols into f of_cols no_constants no_dependencies equal h = record {
  columns = h.columns ∙ of_cols;
  constants = constants_same f _ _ h.constants constant (λ c. turn);
  dependencies = dependencies_same f _ _ h.dependencies dependency (λ s c. turn);
  classes = classes_same f _ h.classes _ linked (λ c d m. stated (turn m));
}
  where
    turn : {A C : Type 0} → A ⊎ ⊥ → C ⊎ A
    turn (inl m) = inr m
    turn (inr m) = absurd m

    constant : (c : ℕ) → CarriedConstants from name into c → Renamed name (λ b. has from.constants b ≡ true) c ⊎ ⊥
    constant c (inl m) = absurd (let k : has [] c ≡ true = subst (λ (s : List ℕ). has s c ≡ true) no_constants m in cc)
    constant c (inr m) = inl m

    dependency : (s : List ℕ) (c : ℕ) → CarriedDependencies from name into s c → DependencyRenamed name (IsDependency from) s c ⊎ ⊥
    dependency s c (inl m) = absurd (let k : has [] c ≡ true = subst (λ (r : List ℕ). has r c ≡ true) no_dependencies m.1 in cc)
    dependency s c (inr m) = inl m

    linked : (c d : ℕ) → CarriedEqualities from name into c d → IsLinked (λ c d. BothRenamed name (λ a b. equal_of from a b ≡ true) c d ⊎ ⊥) c d
    linked c d (inl m) = linked_same _ c d (from_test c d (both (nat_lt c 128) (nat_eq c d) (sym (equal c d) ∙ m)).1)
    linked c d (inr m) = stated (inl m)

-- facts are themselves under their own names
pub kept_named : (f : Facts) → IsOwn f → AreRenamed f Some f.columns f
kept_named f own = record {
  columns = refl;
  constants = λ c l. (λ m. inl (c, m, refl), constant c);
  dependencies = record { stated = λ c l m. inl (by_of f c, c, (l, m, refl), refl, itself (by_of f c)); all = dependency };
  classes = classes_same f (λ c d. equal_of f c d ≡ true) (classes_start f own) _ (λ c d m. stated (inl (c, d, m, refl, refl))) equal;
}
  where
    itself : (s : List ℕ) → IsRenamedSet Some s s
    itself s = record { all = λ c m. refl; just = λ d. (λ m. (d, m, refl), λ m. let e : m.0 ≡ d = (let i = m.2 in cc) in subst (λ (c : ℕ). has s c ≡ true) e m.1) }

    constant : (c : ℕ) → Renamed Some (λ b. has f.constants b ≡ true) c ⊎ ⊥ → has f.constants c ≡ true
    constant c (inl m) = let e : m.0 ≡ c = (let i = m.2 in cc) in subst (λ (b : ℕ). has f.constants b ≡ true) e m.1
    constant c (inr m) = absurd m

    alike : (s r : List ℕ) → IsRenamedSet Some r s → (d : ℕ) → has s d ≡ has r d
    alike s r set d = same_tests _ _ (λ m. let n = (set.just d).0 m in let e : n.0 ≡ d = (let i = n.2 in cc) in subst (λ (c : ℕ). has r c ≡ true) e n.1) (λ m. (set.just d).1 (d, m, refl))

    dependency : (s : List ℕ) (c : ℕ) → DependencyRenamed Some (IsDependency f) s c ⊎ ⊥ → (has f.determined c ≡ true) × ((d : ℕ) → has s d ≡ has (by_of f c) d)
    dependency s c (inl m) =
        let e : m.1 ≡ c = (let i = m.3 in cc) in (
          subst (λ (b : ℕ). has f.determined b ≡ true) e m.2.1,
          λ d. alike s m.0 m.4 d ∙ ap (λ (r : List ℕ). has r d) (m.2.2 ∙ ap (by_of f) e),
        )
    dependency s c (inr m) = absurd m

    equal : (c d : ℕ) → BothRenamed Some (λ a b. equal_of f a b ≡ true) c d ⊎ ⊥ → IsLinked (λ a b. equal_of f a b ≡ true) c d
    equal c d (inl m) =
        let e : m.0 ≡ c = (let i = m.3 in cc) in
        let k : m.1 ≡ d = (let i = m.4 in cc) in
        stated (subst (λ (b : ℕ). equal_of f c b ≡ true) k (subst (λ (a : ℕ). equal_of f a m.1 ≡ true) e m.2))
    equal c d (inr m) = absurd m

module _ (from : Facts) (name : ℕ → Option ℕ) (cols : List ℕ) (f g : Facts) (plain : AreRenamed from name cols f) (same : g.columns ≡ f.columns) where
  -- more facts beside those under new names
  pub named_more : (C : ℕ → Type 0) (D : List ℕ → ℕ → Type 0) (E : ℕ → ℕ → Type 0) → ((b c : ℕ) → b < 128 → name b ≡ Some c → c < 128) → AreConstants g (λ c. (has f.constants c ≡ true) ⊎ C c)
      → AreDependencies g (λ s c. IsDependency f s c ⊎ D s c) → AreClasses g (λ c d. (equal_of f c d ≡ true) ⊎ E c d) → AreNamed name C D E cols from g
  named_more C D E low constants dependencies classes = record {
    columns = same ∙ plain.columns;
    constants = constants_same g _ _ (constants_chain f g _ C plain.constants constants) (λ c. either_first either_none) (λ c. either_first inl);
    dependencies = dependencies_same g _ _ (dependencies_chain f g _ D below plain.dependencies dependencies) (λ s c. either_first either_none) (λ s c. either_first inl);
    classes = classes_same g _ (classes_chain f g _ E plain.classes classes) _ (λ c d m. stated (either_first either_none m)) (λ c d m. stated (either_first inl m));
  }
    where
      below : (s : List ℕ) (c : ℕ) → DependencyRenamed name (IsDependency from) s c ⊎ ⊥ → c < 128
      below s c (inl m) = low m.1 c m.2.0 m.3
      below s c (inr m) = absurd m

-- names by number are names
pub names_are : (names : Names) (name : ℕ → Option ℕ) → length names.of ≡ 128 → ((c : ℕ) → c < 128 → name_of names c ≡ name c) → ((b c : ℕ) → name b ≡ Some c → b < 128) → name_of names ≡ name
names_are names name places same low = λ i. λ c. each c i
  where
    each : (c : ℕ) → name_of names c ≡ name c
    each c = go (nat_lt c 128) refl (name c) refl
      where
        go : (t : Bool) → nat_lt c 128 ≡ t → (o : Option ℕ) → name c ≡ o → name_of names c ≡ name c
        go true t o e = same c (let l : c < 128 = grind (arith, nat_tests) in l)
        go false t None e = let l : 128 ≤ c = grind (arith, nat_tests) in get_or_past names.of c None (omega arith) ∙ sym e
        go false t (Some d) e = let k = low c d e in absurd (let l : 128 ≤ c = grind (arith, nat_tests) in omega arith)

pub ref_naming : (result cols : List ℕ) → IsColumnSet result → IsColumnSet cols → IsNaming (ref_name result cols)
ref_naming result cols set other = record {
  below = λ b c e. has_below cols other c (has_at cols (rank result b) c (ref_source result cols b c e).1);
  single = λ a b c e f.
      let p = ref_source result cols a c e in
      let q = ref_source result cols b c f in
      let same : rank result a ≡ rank result b = sym (rank_at cols (rank result a) c other p.1) ∙ rank_at cols (rank result b) c other q.1 in
      let one : Some a ≡ Some b = sym (rank_place result a set p.0) ∙ ap (slice_get result) same ∙ rank_place result b set q.0 in
      cc;
}

pub ref_low : (result cols : List ℕ) → IsColumnSet result → (b c : ℕ) → ref_name result cols b ≡ Some c → b < 128
ref_low result cols set b c e = has_below result set b (ref_source result cols b c e).0

pub key_naming : (keys : List ℕ) → IsColumnSet keys → IsNaming (key_name keys)
key_naming keys set = record {
  below = λ b c e. let k = key_source keys b c e in subst (λ (i : ℕ). i < 128) k.1 (has_below keys set b k.0);
  single = λ a b c e f. (key_source keys a c e).1 ∙ sym (key_source keys b c f).1;
}

pub key_low : (keys : List ℕ) → IsColumnSet keys → (b c : ℕ) → key_name keys b ≡ Some c → b < 128
key_low keys set b c e = has_below keys set b (key_source keys b c e).0

-- the item that gives a column its name
pub item_source : (items : List Expr) (cols : List ℕ) (b c : ℕ) → item_name items cols b ≡ Some c → (i : ℕ) × (slice_get cols i ≡ Some c) × IsItem items i b
item_source items cols b c e = go (position (is_column b) items) refl e
  where
    go : (o : Option ℕ) → position (is_column b) items ≡ o → option_and_then (slice_get cols) o ≡ Some c → (i : ℕ) × (slice_get cols i ≡ Some c) × IsItem items i b
    go None p k = absurd (cc)
    go (Some i) p k = (i, k, (first_place items b i p).0)

pub item_naming : (items : List Expr) (cols : List ℕ) → IsColumnSet cols → IsNaming (item_name items cols)
item_naming items cols set = record {
  below = λ b c e. let k = item_source items cols b c e in has_below cols set c (has_at cols k.0 c k.1);
  single = λ a b c e f.
      let p = item_source items cols a c e in
      let q = item_source items cols b c f in
      let same : p.0 ≡ q.0 = sym (rank_at cols p.0 c set p.1) ∙ rank_at cols q.0 c set q.1 in
      item_one items q.0 a b (subst (λ (i : ℕ). IsItem items i a) same p.2) q.2;
}

-- an item's column is one of those that it is over
item_over : (below : List ℕ) (items : List Expr) (i b : ℕ) → All (IsOver below) items → IsItem items i b → has below b ≡ true
item_over below items i b over h = go (slice_get items i) refl h
  where
    column : (e : Expr) → IsOver below e → is_column b e ≡ true → has below b ≡ true
    column (Col d k) o t = subst (λ (j : ℕ). has below j ≡ true) (sym (from_test b d t)) o
    column (Literal v) o t = absurd (cc)
    column (Neg' s a) o t = absurd (cc)
    column (Not' s a) o t = absurd (cc)
    column (Pair' op s a t d) o u = absurd (cc)

    go : (o : Option Expr) → slice_get items i ≡ o → IsSomeAnd o (λ e. is_column b e ≡ true) → has below b ≡ true
    go None e k = absurd k
    go (Some e) f k = column e (subst (λ (x : Expr). IsOver below x) (get_or_from_slice_get items i e e f) (over i e (slice_get_within items i e f))) k

pub item_low : (below : List ℕ) (items : List Expr) (cols : List ℕ) → IsColumnSet below → All (IsOver below) items → (b c : ℕ) → item_name items cols b ≡ Some c → b < 128
item_low below items cols set over b c e = let k = item_source items cols b c e in has_below below set b (item_over below items k.0 b over k.2)

-- the facts of a projection: carried, then its literals, then its items that are one column
pub projected_all : (items : List Expr) (cols : List ℕ) (from f g h : Facts) → IsColumnSet cols → AreRenamed from (item_name items cols) cols f → g ≡ record f { constants = g.constants } → h ≡ record g { class = h.class }
    → AreConstants g (λ c. (has f.constants c ≡ true) ⊎ MakesConstant (Project items cols) c) → AreClasses h (λ c d. (equal_of g c d ≡ true) ⊎ AreSameItem items cols c d) → AreAbove (Project items cols) from h
projected_all items cols from f g h set plain i j literals same =
    named_more from (item_name items cols) cols f h plain (ap (λ (k : Facts). k.columns) j ∙ ap (λ (k : Facts). k.columns) i) (MakesConstant (Project items cols)) (λ s c. ⊥) (AreSameItem items cols) (λ b c l. (item_naming items cols set).below b c)
    (constants_moved g h _ (ap (λ (k : Facts). k.constants) j) literals)
    (dependencies_moved f h _ (ap (λ (k : Facts). k.determined) j ∙ ap (λ (k : Facts). k.determined) i) (ap (λ (k : Facts). k.by) j ∙ ap (λ (k : Facts). k.by) i) (dependencies_kept f (λ s c. ⊥) (λ s c m. m)))
    (classes_same h _ same _ (λ c d m. stated (either_first (λ k. sym (equal c d) ∙ k) m)) (λ c d m. stated (either_first (λ k. equal c d ∙ k) m)))
  where
    equal : (c d : ℕ) → equal_of g c d ≡ equal_of f c d
    equal c d = ap (λ (k : Facts). equal_of (record f { class = k.class }) c d) i

-- the facts of a filter: its own, with what the predicate states
pub filtered_all : (e : Expr) (f g : Facts) → IsOwn f → g ≡ record f { constants = g.constants; class = g.class } → AreConstants g (λ c. (has f.constants c ≡ true) ⊎ SetsConstant e c)
    → AreClasses g (λ c d. (equal_of f c d ≡ true) ⊎ SetsEqual e c d) → AreAbove (Filter e) f g
filtered_all e f g own i constants classes =
    named_more f Some f.columns f g (kept_named f own) (ap (λ (k : Facts). k.columns) i) (SetsConstant e) (λ s c. ⊥) (SetsEqual e) (λ b c l k. let same : b ≡ c = cc in subst (λ (j : ℕ). j < 128) same l) constants
    (dependencies_moved f g _ (ap (λ (k : Facts). k.determined) i) (ap (λ (k : Facts). k.by) i) (dependencies_kept f (λ s c. ⊥) (λ s c m. m))) classes

-- the key's facts know no dependency of an aggregate
pub key_free : (args : GroupArgs) (from f : Facts) → IsGroup args → AreRenamed from (key_name args.keys) (group_columns args) f → All (λ a. has f.determined a.id ≡ false) args.aggs
key_free args from f group h k d l = go (slice_index_or args.aggs k d) (group.own k d l) (group.below k d l)
  where
    from_key : {s : List ℕ} (c : ℕ) → DependencyRenamed (key_name args.keys) (IsDependency from) s c ⊎ ⊥ → has args.keys c ≡ true
    from_key c (inl m) = let k = key_source args.keys m.1 c m.3 in subst (λ (i : ℕ). has args.keys i ≡ true) k.1 k.0
    from_key c (inr m) = absurd m

    go : (a : Agg) → has args.keys a.id ≡ false → a.id < 128 → has f.determined a.id ≡ false
    go a own low = test (has f.determined a.id) refl
      where
        test : (t : Bool) → has f.determined a.id ≡ t → has f.determined a.id ≡ false
        test false t = t
        test true t =
            absurd (let there : has args.keys a.id ≡ true = from_key a.id (h.dependencies.stated a.id low t) in cc)

-- the facts of a group, by those of its key and its aggregates
module _ (args : GroupArgs) (from f g : Facts) (group : IsGroup args) (h : AreRenamed from (key_name args.keys) (group_columns args) f) where
  -- without a key
  pub grouped_none : count args.keys ≡ 0 → g ≡ record f { constants = g.constants } → AreConstants g (λ c. (has f.constants c ≡ true) ⊎ IsAggregate args c) → AreAbove (Group args) from g
  grouped_none none i constants =
      named_more from (key_name args.keys) (group_columns args) f g h (ap (λ (k : Facts). k.columns) i) (MakesConstant (Group args)) (MakesDependent (Group args)) (λ c d. ⊥) (λ b c l. (key_naming args.keys group.key_set).below b c)
      (constants_same g _ _ constants (λ c. either_second (λ m. (nil_from_length args.keys none, m))) (λ c. either_second (λ m. m.1)))
      (dependencies_moved f g _ (ap (λ (k : Facts). k.determined) i) (ap (λ (k : Facts). k.by) i) (dependencies_kept f (MakesDependent (Group args)) (λ s c m. m.0 (nil_from_length args.keys none))))
      (classes_moved f g _ (ap (λ (k : Facts). k.class) i) (classes_kept f (λ c d. ⊥) h.classes.own (λ c d m. m)))

  -- with one
  pub grouped_some : (count args.keys ≡ 0 → ⊥) → g ≡ record f { determined = g.determined; by = g.by } → AreDependencies g (λ s c. IsDependency f s c ⊎ ((s ≡ args.keys) × IsAggregate args c)) → AreAbove (Group args) from g
  grouped_some some i depends =
      named_more from (key_name args.keys) (group_columns args) f g h (ap (λ (k : Facts). k.columns) i) (MakesConstant (Group args)) (MakesDependent (Group args)) (λ c d. ⊥) (λ b c l. (key_naming args.keys group.key_set).below b c)
      (constants_moved f g _ (ap (λ (k : Facts). k.constants) i) (constants_kept f (MakesConstant (Group args)) (λ c m. some (ap count m.0))))
      (dependencies_same g _ _ depends (λ s c. either_second (λ m. (λ e. some (ap count e), m.0, m.1))) (λ s c. either_second (λ m. (m.1, m.2))))
      (classes_moved f g _ (ap (λ (k : Facts). k.class) i) (classes_kept f (λ c d. ⊥) h.classes.own (λ c d m. m)))

-- the facts of a join: the constants and dependencies of both sides, then the equalities, then its pairs
pub joined_all : (on : List (ℕ × ℕ)) (left right f g h : Facts) (cols constants : List ℕ) → cols ≡ union left.columns right.columns → constants ≡ union left.constants right.constants
    → f ≡ record left { columns = cols; constants = constants; determined = f.determined; by = f.by } → g ≡ record f { class = g.class } → h ≡ record g { class = h.class }
    → AreDependencies f (λ s c. IsDependency (record left { columns = cols; constants = constants }) s c ⊎ IsDependency right s c)
    → AreClasses g (CarriedEqualities right (key_name right.columns) f) → AreClasses h (λ c d. (equal_of g c d ≡ true) ⊎ Contains on (c, d)) → AreJoined on left right h
joined_all on left right f g h cols constants e i j k l depends equal pairs = record {
  columns = ap (λ (x : Facts). x.columns) l ∙ ap (λ (x : Facts). x.columns) k ∙ ap (λ (x : Facts). x.columns) j ∙ e;
  constants = λ c low. let same : h.constants ≡ union left.constants right.constants = ap (λ (x : Facts). x.constants) l ∙ ap (λ (x : Facts). x.constants) k ∙ ap (λ (x : Facts). x.constants) j ∙ i in
      (λ m. union_has left.constants right.constants c (subst (λ (s : List ℕ). has s c ≡ true) same m), λ m. subst (λ (s : List ℕ). has s c ≡ true) (sym same) (has_union left.constants right.constants c low m));
  dependencies = dependencies_moved f h _ (ap (λ (x : Facts). x.determined) l ∙ ap (λ (x : Facts). x.determined) k) (ap (λ (x : Facts). x.by) l ∙ ap (λ (x : Facts). x.by) k) (record { stated = depends.stated; all = depends.all });
  classes = classes_chain g h (CarriedEqualities right (key_name right.columns) left) (λ c d. Contains on (c, d))
      (classes_same g (CarriedEqualities right (key_name right.columns) f) equal (CarriedEqualities right (key_name right.columns) left) (λ c d m. stated (either_first (λ n. sym (same c d) ∙ n) m)) (λ c d m. stated (either_first (λ n. same c d ∙ n) m))) pairs;
}
  where
    same : (c d : ℕ) → equal_of f c d ≡ equal_of left c d
    same c d = ap (λ (s : List ℕ). equal_of (record left { class = s }) c d) (ap (λ (x : Facts). x.class) j)
