-- The facts of each kind of node are those that its table says.
use Rattle.std.proofs.Common.{◌≡◌, ◌≢◌, ℕ, ◌<◌, Bool, true, false, ◌&&◌, List, [], refl, sym, ap, ap₂, ◌∙◌, subst, arith, ◌⊎◌, inl, inr, nat_eq, nat_lt, Option, Some, None, slice_get}
use Rattle.std.specs.Prelude.{◌↔◌, All, Contains, IfSome, IsSomeAnd, option_map}
use Rattle.std.specs.Option.{option_map_or}
use Rattle.col_sets.specs.Sets.{has, union, count, IsColumnSet}
use Rattle.col_sets.specs.Columns.{has_below}
use Rattle.col_sets.specs.Tests.{both, and_true, from_test, to_test}
use Rattle.std.proofs.lemmas.Bool.Decides.{nat_tests}
use Rattle.scope_expr.specs.declared.expr.Expr.{Expr}
use Rattle.fd_closure.specs.declared.facts.Facts.{Facts}
use Rattle.fd_closure.specs.Known.{by_of, equal_of}
use Rattle.fd_closure.specs.Laws.{equal_parts}
use Rattle.logical_trees.specs.declared.args.GroupArgs.{GroupArgs}
use Rattle.logical_trees.specs.declared.args.CallArgs.{CallArgs}
use Rattle.logical_trees.specs.declared.logic_op.LogicOp.{LogicOp}
use Rattle.logical_trees.specs.declared.logic_op.LogicOp.TheVariants.{Scan, Ref, Filter, Project, Join, Group, Process, Reduce, Combine, Partial, Finish}
use Rattle.logical_trees.specs.Tree.{Expression, leaf, one, two, one_columns, columns_of}
use Rattle.logical_trees.specs.Formed.{IsJoin, IsOver, IsFormed, IsOneFormed}
use Rattle.logical_dag.specs.Facts.{IsLinked, stated, itself, Renamed, BothRenamed, DependencyRenamed, SetsEqual, ref_name, name_above, MakesEqual, IsConstant, Determines, IsStatedEqual, AreEqual, AreFactsOf}
use Rattle.logical_dag.specs.Laws.{lent_columns}
use Rattle.std.proofs.lemmas.Option.{slice_get-map}
use Rattle.logical_dag.specs.Known.{IsLentSet, IsDependency, IsOwn, AreBelow, AreClasses, AreDependencies, AreConstants, AreRenamed, AreAbove, AreFactsAbove, AreJoined, AreApart, IsJoinApart}
use Rattle.logical_dag.proofs.Classes.{linked_bind, linked_same, linked_none, classes_same, classes_linked}
use Rattle.logical_trees.specs.ColumnLemmas.{columns_set}
use Rattle.logical_dag.proofs.KnownColumns.{AreAbout, known_about, equal_over}
use Rattle.logical_dag.proofs.Either.{from_either, either_first, either_second, either_none}
use Rattle.logical_dag.proofs.JoinTables.{joined_constants, joined_dependencies, joined_classes}
use Rattle.logical_dag.proofs.Constants.{constants_same}
use Rattle.logical_dag.proofs.Dependencies.{dependencies_same}
use Rattle.logical_dag.proofs.KnownSteps.{kept_named, key_low, item_low, ref_low}

-- by the facts of an expression each column is equal to itself
pub facts_own : (shared : List Facts) (t : Expression) (f : Facts) → AreFactsOf shared t f → IsOwn f
facts_own shared t f h c l = (h.equal c c l l).1 itself

module _ (shared : List Facts) (t : Expression) (f : Facts) (results : List (List ℕ)) (formed : IsFormed results t) (h : AreFactsOf shared t f) where
  -- columns of which the expression's facts speak are below 128
  low : (c : ℕ) → has (columns_of t) c ≡ true → c < 128
  low c m = has_below (columns_of t) (columns_set results t formed) c m

  about : AreAbout (IsConstant shared t) (Determines shared t) (AreEqual shared t) (columns_of t)
  about = known_about shared results t formed

  -- columns that are equal by the facts are so by the table, and the other way round
  equal_there : (a b : ℕ) → equal_of f a b ≡ true → AreEqual shared t a b
  equal_there a b m = let p = equal_parts f a b m in (h.equal a b p.0 p.1).0 m

  equal_back : (a b : ℕ) → AreEqual shared t a b → (a ≡ b) ⊎ (equal_of f a b ≡ true)
  equal_back a b m = either_second (λ k. (h.equal a b (low a k.0) (low b k.1)).1 m) (about.equal a b m)

  -- the facts have the equal columns of the table
  pub facts_classes : AreClasses f (AreEqual shared t)
  facts_classes = record {
    own = facts_own shared t f h;
    there = λ c d m. stated (equal_there c d m);
    back = λ c d l. equal_back c d (linked_bind (AreEqual shared t) (IsStatedEqual shared t) (λ a b m. m) c d l);
  }

  -- what the table says of dependencies is of columns below 128
  pub determined_low : (s : List ℕ) (c : ℕ) → Determines shared t s c → c < 128
  determined_low s c m = low c (about.determined s c m)

  -- columns that are equal are one, or are columns of the rows
  pub equal_within : (c d : ℕ) → AreEqual shared t c d → (c ≡ d) ⊎ ((has f.columns c ≡ true) × (has f.columns d ≡ true))
  equal_within c d m = subst (λ (s : List ℕ). (c ≡ d) ⊎ ((has s c ≡ true) × (has s d ≡ true))) (sym h.columns) (about.equal c d m)

  -- dependencies by the facts, renamed, are so by the table, and the other way round
  depend_there : (name : ℕ → Option ℕ) (s : List ℕ) (c : ℕ) → DependencyRenamed name (IsDependency f) s c → DependencyRenamed name (Determines shared t) s c
  depend_there name s c m = (m.0, m.1, subst (λ (r : List ℕ). Determines shared t r m.1) (sym m.2.2) (h.stated m.1 m.2.0 m.2.1), m.3, m.4)

  depend_back : (name : ℕ → Option ℕ) (s : List ℕ) (c : ℕ) → DependencyRenamed name (Determines shared t) s c → DependencyRenamed name (IsDependency f) s c
  depend_back name s c m =
      let k = h.all m.0 m.1 m.2 in (
        by_of f m.1,
        m.1,
        (low m.1 (about.determined m.0 m.1 m.2), k.0, refl),
        m.3,
        record {
          all = λ b n. m.4.all b (k.1 b ∙ n);
          just = λ d. (λ n. let p = (m.4.just d).0 n in (p.0, sym (k.1 p.0) ∙ p.1, p.2), λ n. (m.4.just d).1 (n.0, k.1 n.0 ∙ n.1, n.2));
        },
      )

  -- the facts of a node over the expression
  pub above_facts : (op : LogicOp) (g : Facts) → ((b c : ℕ) → c < 128 → name_above op b ≡ Some c → b < 128) → AreAbove op f g → AreFactsOf shared (one op t) g
  above_facts op g named r = record {
    columns = r.columns ∙ ap (one_columns op) h.columns;
    constants = λ c l. (
      λ m. either_first (λ k. (k.0, (h.constants k.0 (named k.0 c l k.2)).0 k.1, k.2)) ((r.constants c l).0 m),
      λ m. (r.constants c l).1 (either_first (λ k. (k.0, (h.constants k.0 (low k.0 (about.constants k.0 k.1))).1 k.1, k.2)) m),
    );
    stated = λ c l m. either_first (depend_there (name_above op) (by_of g c) c) (r.dependencies.stated c l m);
    all = λ s c m. r.dependencies.all s c (either_first (depend_back (name_above op) s c) m);
    equal = classes_linked g (IsStatedEqual shared (one op t))
        (classes_same g _ r.classes (IsStatedEqual shared (one op t)) (λ c d m. stated (either_first (λ k. (k.0, k.1, equal_there k.0 k.1 k.2, k.3, k.4)) m)) back);
  }
    where
      Kept : ℕ → ℕ → Type 0
      Kept c d = BothRenamed (name_above op) (λ a b. equal_of f a b ≡ true) c d ⊎ MakesEqual op c d

      back : (c d : ℕ) → IsStatedEqual shared (one op t) c d → IsLinked Kept c d
      back c d (inr m) = stated (inr m)
      back c d (inl m) =
          from_either (λ e. let same : Some c ≡ Some d = sym m.3 ∙ ap (name_above op) e ∙ m.4 in linked_same Kept c d (cc)) (λ k. stated (inl (m.0, m.1, k, m.3, m.4))) (equal_back m.0 m.1 m.2)

  -- names above a node are of columns below 128
  pub above_low : (op : LogicOp) → IsOneFormed (columns_of t) op → (b c : ℕ) → c < 128 → name_above op b ≡ Some c → b < 128
  above_low (Project items cols) over b c l e = item_low (columns_of t) items cols (columns_set results t formed) over.2 b c e
  above_low (Group args) over b c l e = key_low args.keys over.0.key_set b c e
  above_low (Partial args) over b c l e = key_low args.keys over.0.key_set b c e
  above_low (Finish args) over b c l e = key_low args.keys over.key_set b c e
  above_low (Process call) over b c l e = absurd (cc)
  above_low (Reduce call on presort) over b c l e = absurd (cc)
  above_low op over b c l e = let same : b ≡ c = cc in subst (λ (i : ℕ). i < 128) (sym same) l

  -- the facts of a node over the expression, as the node makes them of those of the expression
  pub node_facts : (op : LogicOp) (g : Facts) → IsOneFormed (columns_of t) op → AreAbove op f g → AreFactsOf shared (one op t) g
  node_facts op g over r = above_facts op g (above_low op over) r

-- the same of any expression with the facts below, where the node is of that kind
pub facts_above : (op kind : LogicOp) (f g : Facts) → op ≡ kind → AreAbove kind f g → AreFactsAbove op f g
facts_above op kind f g is r shared t formed facts =
    subst (λ (op : LogicOp). AreFactsOf shared (one op t) g) (sym is)
    (node_facts shared t f (lent_columns shared) formed.0 facts kind g (subst (λ (op : LogicOp). IsOneFormed (columns_of t) op) is formed.1) r)

-- facts of which nothing is known but the columns
pub plain_facts : (shared : List Facts) (f : Facts) → f.constants ≡ [] → f.determined ≡ [] → ((c d : ℕ) → equal_of f c d ≡ (nat_lt c 128 && nat_eq c d))
    → ((c : ℕ) → c < 128 → (has f.constants c ≡ true) ↔ ⊥) × ((c : ℕ) → c < 128 → has f.determined c ≡ true → ⊥) × ((c d : ℕ) → c < 128 → d < 128 → (equal_of f c d ≡ true) ↔ IsLinked (λ c d. ⊥) c d)
plain_facts shared f p q r = (
  λ c l. (λ h. absurd (let k : has [] c ≡ true = ap (λ s. has s c) (sym p) ∙ h in cc), λ h. absurd h),
  λ c l h. absurd (let k : has [] c ≡ true = ap (λ s. has s c) (sym q) ∙ h in cc),
  λ c d l m. (
    λ h. linked_same _ c d (from_test c d (both (nat_lt c 128) (nat_eq c d) (sym (r c d) ∙ h)).1),
    λ e. r c d ∙ and_true (nat_lt c 128) (nat_eq c d) (let b : nat_lt c 128 ≡ true = grind (arith, nat_tests) in b) (to_test c d (linked_none _ (λ a b n. n) c d e)),
  ),
)

-- the tables of what is lent, where something is
abbrev AreLent : List ℕ → Facts → Option Facts → Type 0
AreLent cols g o =
    AreConstants g (Renamed (ref_name (option_map_or (λ f. f.columns) o []) cols) (λ b. IsSomeAnd o (λ f. has f.constants b ≡ true)))
    × AreDependencies g (DependencyRenamed (ref_name (option_map_or (λ f. f.columns) o []) cols) (λ s b. IsSomeAnd o (λ f. (has f.determined b ≡ true) × (s ≡ by_of f b))))
    × AreClasses g (BothRenamed (ref_name (option_map_or (λ f. f.columns) o []) cols) (λ a b. IsSomeAnd o (λ f. equal_of f a b ≡ true)))

-- the facts of a Ref
pub ref_facts : (shared : List Facts) (i : ℕ) (cols : List ℕ) (lent g : Facts) → slice_get shared i ≡ Some lent → IsColumnSet lent.columns → AreRenamed lent (ref_name lent.columns cols) cols g → AreFactsOf shared (leaf (Ref i cols)) g
ref_facts shared i cols lent g at set r = record { columns = r.columns; constants = known.0; stated = known.1.stated; all = known.1.all; equal = classes_linked g _ known.2 }
  where
    there : (s : List ℕ) (c : ℕ) → DependencyRenamed (ref_name lent.columns cols) (IsDependency lent) s c ⊎ ⊥ → DependencyRenamed (ref_name lent.columns cols) (λ s b. (has lent.determined b ≡ true) × (s ≡ by_of lent b)) s c
    there s c (inl m) = (m.0, m.1, (m.2.1, m.2.2), m.3, m.4)
    there s c (inr m) = absurd m

    known : AreLent cols g (slice_get shared i)
    known = subst (AreLent cols g) (sym at) (
      constants_same g _ _ r.constants (λ c. either_none) (λ c. inl),
      dependencies_same g _ _ r.dependencies there (λ s c m. inl (m.0, m.1, (ref_low lent.columns cols set m.1 c m.3, m.2.0, m.2.1), m.3, m.4)),
      classes_same g _ r.classes _ (λ c d m. stated (either_none m)) (λ c d m. stated (inl m)),
    )

module _ (shared : List Facts) (results : List (List ℕ)) (t u : Expression) (left right : Facts) (formed : IsFormed results t) (other : IsFormed results u) (h : AreFactsOf shared t left) (k : AreFactsOf shared u right) where
  beside : AreAbout (IsConstant shared u) (Determines shared u) (AreEqual shared u) (columns_of u)
  beside = known_about shared results u other

  -- no column has a dependency by the facts of both sides
  pub sides_apart : ((c : ℕ) → has (columns_of t) c ≡ true → has (columns_of u) c ≡ true → ⊥) → AreApart left right
  sides_apart apart c l m = go (has left.determined c) refl
    where
      go : (b : Bool) → has left.determined c ≡ b → has left.determined c ≡ false
      go false e = e
      go true e = absurd (apart c ((known_about shared results t formed).determined (by_of left c) c (h.stated c l e)) (beside.determined (by_of right c) c (k.stated c l m)))

  -- the facts of a join
  pub join_facts : (on : _) (op : LogicOp) → op ≡ Join on → (g : Facts) → AreJoined on.items left right g → AreFactsOf shared (two (Join on) t u) g
  join_facts on op e g r = record {
    columns = r.columns ∙ ap₂ union h.columns k.columns;
    constants = joined_constants on.items left right g r (IsConstant shared t) (IsConstant shared u) h.constants k.constants;
    stated = depends.stated;
    all = depends.all;
    equal = classes_linked g _ (joined_classes on.items left right g r (AreEqual shared t) (AreEqual shared u) (facts_classes shared t left results formed h) (facts_classes shared u right results other k)
        (equal_within shared u right results other k));
  }
    where
      depends : AreDependencies g (Determines shared (two (Join on) t u))
      depends = joined_dependencies on.items left right g r (Determines shared t) (Determines shared u) (determined_low shared t left results formed h) (determined_low shared u right results other k)
          (record { stated = h.stated; all = h.all }) (record { stated = k.stated; all = k.all })

-- the other kinds keep the facts of what is below them
pub kept_above : (op : LogicOp) (f : Facts) → ((e : Expr) → op ≡ Filter e → ⊥) → ((items : List Expr) (cols : List ℕ) → op ≡ Project items cols → ⊥)
    → ((args : GroupArgs) → op ≡ Group args → ⊥) → ((args : GroupArgs) → op ≡ Finish args → ⊥) → ((args : GroupArgs) → op ≡ Partial args → ⊥)
    → ((call : CallArgs) → op ≡ Process call → ⊥) → ((call : CallArgs) (on : _) (presort : _) → op ≡ Reduce call on presort → ⊥) → IsOwn f → AreAbove op f f
kept_above (Filter e) f a b c d i j k own = absurd (a e refl)
kept_above (Project items cols) f a b c d i j k own = absurd (b items cols refl)
kept_above (Group args) f a b c d i j k own = absurd (c args refl)
kept_above (Finish args) f a b c d i j k own = absurd (d args refl)
kept_above (Partial args) f a b c d i j k own = absurd (i args refl)
kept_above (Process call) f a b c d i j k own = absurd (j call refl)
kept_above (Reduce call on presort) f a b c d i j k own = absurd (k call on presort refl)
kept_above op f a b c d i j k own = kept_named f own

-- of what operators of the user's give nothing is known
pub combine_facts : (shared : List Facts) (call : CallArgs) (on : _) (before : _) (after : _) (t u : Expression) (f : Facts) → f.columns ≡ call.cols → f.constants ≡ [] → f.determined ≡ [] → ((c d : ℕ) → equal_of f c d ≡ (nat_lt c 128 && nat_eq c d))
    → AreFactsOf shared (two (Combine call on before after) t u) f
combine_facts shared call on before after t u f columns p q r =
    let none = plain_facts shared f p q r in record { columns = columns; constants = none.0; stated = none.1; all = λ s c m. absurd m; equal = none.2 }

-- nor of a scan, or of a kind that wants children and has none
pub scan_facts : (shared : List Facts) (scan : ℕ) (cols : List ℕ) (f : Facts) → f.columns ≡ cols → f.constants ≡ [] → f.determined ≡ [] → ((c d : ℕ) → equal_of f c d ≡ (nat_lt c 128 && nat_eq c d))
    → AreFactsOf shared (leaf (Scan scan cols)) f
scan_facts shared scan cols f columns p q r =
    let none = plain_facts shared f p q r in record { columns = columns; constants = none.0; stated = none.1; all = λ s c m. absurd m; equal = none.2 }

pub bare_facts : (shared : List Facts) (op : LogicOp) (f : Facts) → ((scan : ℕ) (cols : List ℕ) → op ≡ Scan scan cols → ⊥) → ((i : ℕ) (cols : List ℕ) → op ≡ Ref i cols → ⊥)
    → f.columns ≡ [] → f.constants ≡ [] → f.determined ≡ [] → ((c d : ℕ) → equal_of f c d ≡ (nat_lt c 128 && nat_eq c d)) → AreFactsOf shared (leaf op) f
bare_facts shared (Scan scan cols) f a b columns p q r = absurd (a scan cols refl)
bare_facts shared (Ref i cols) f a b columns p q r = absurd (b i cols refl)
bare_facts shared op f a b columns p q r =
    let none = plain_facts shared f p q r in record { columns = columns; constants = none.0; stated = none.1; all = λ s c m. absurd m; equal = none.2 }

-- what is formed over the columns of the facts below is formed over those of the expression
pub joined_apart : (shared : List Facts) (results : List (List ℕ)) (op : LogicOp) (t u : Expression) (left right : Facts) → IsFormed results (two op t u) → AreFactsOf shared t left → AreFactsOf shared u right → IsJoinApart op left right
joined_apart shared results (Join on) t u left right formed h k = sides_apart shared results t u left right formed.0 formed.1 h k formed.2.apart
joined_apart shared results op t u left right formed h k = tt

-- the pairs of a join are of columns below 128
pub pairs_low : (left right : List ℕ) (on : List (ℕ × ℕ)) → IsColumnSet left → IsColumnSet right → IsJoin left right on → All (λ p. (p.0 < 128) × (p.1 < 128)) on
pairs_low left right on set other join k d l = let p = join.sides k d l in (has_below left set _ p.0, has_below right other _ p.1)

-- what a predicate over the columns of the expression sets equal is below 128
pub filter_low : (results : List (List ℕ)) (t : Expression) (e : Expr) → IsFormed results t → IsOver (columns_of t) e → AreBelow (SetsEqual e)
filter_low results t e formed over c d m =
    let p = equal_over (columns_of t) e c d over m in
    (has_below (columns_of t) (columns_set results t formed) c p.0, has_below (columns_of t) (columns_set results t formed) d p.1)

-- what is lent for a Ref is over a set
pub lent_set : (shared : List Facts) (i : ℕ) (cols : List ℕ) (lent : Facts) → slice_get shared i ≡ Some lent → IsColumnSet lent.columns → IsLentSet shared (leaf (Ref i cols))
lent_set shared i cols lent at set = subst (λ (o : Option Facts). IfSome o (λ f. IsColumnSet f.columns)) (sym at) set

-- something is lent for a Ref that is formed
pub lent_there : (shared : List Facts) (i : ℕ) (cols : List ℕ) → slice_get shared i ≡ None → IsFormed (lent_columns shared) (leaf (Ref i cols)) → ⊥
lent_there shared i cols at formed =
    let none : slice_get (lent_columns shared) i ≡ None = slice_get-map (λ (f : Facts). f.columns) shared i ∙ ap (option_map (λ (f : Facts). f.columns)) at in
    subst (λ (o : Option (List ℕ)). IsSomeAnd o (λ r. count r ≡ count cols)) none formed.1

-- nothing is lent for the other kinds
pub bare_set : (shared : List Facts) (op : LogicOp) → ((i : ℕ) (cols : List ℕ) → op ≡ Ref i cols → ⊥) → IsLentSet shared (leaf op)
bare_set shared (Ref i cols) h = absurd (h i cols refl)
bare_set shared op h = tt

-- nor of a kind that wants fewer children and has two
pub wide_facts : (shared : List Facts) (op : LogicOp) (t u : Expression) (left right f : Facts) → ((on : _) → op ≡ Join on → ⊥) → ((call : CallArgs) (on : _) (before : _) (after : _) → op ≡ Combine call on before after → ⊥)
    → AreFactsOf shared t left → AreFactsOf shared u right → f.columns ≡ union left.columns right.columns → f.constants ≡ [] → f.determined ≡ [] → ((c d : ℕ) → equal_of f c d ≡ (nat_lt c 128 && nat_eq c d)) → AreFactsOf shared (two op t u) f
wide_facts shared (Join on) t u left right f a b h k columns p q r = absurd (a on refl)
wide_facts shared (Combine call on before after) t u left right f a b h k columns p q r = absurd (b call on before after refl)
wide_facts shared op t u left right f a b h k columns p q r =
    let none = plain_facts shared f p q r in
    record { columns = columns ∙ ap₂ union h.columns k.columns; constants = none.0; stated = none.1; all = λ s c m. absurd m; equal = none.2 }
