-- The facts of an expression speak of no columns but its own.
use Rattle.std.proofs.Common.{◌≡◌, ◌≢◌, ℕ, zero, suc, ◌+◌, ◌<◌, ◌≤◌, if◌then◌else◌, Bool, true, false, List, [], ◌∷◌, map, refl, sym, ap, ◌∙◌, subst, arith, ◌⊎◌, inl, inr, nat_lt, Option, Some, None, slice_get}
use Rattle.std.specs.Prelude.{Contains, All, position}
use Rattle.std.specs.List.{filter, range_with_len}
use Rattle.std.specs.Option.{option_and_then}
use Rattle.std.proofs.lemmas.Bool.Decides.{nat_tests}
use Rattle.std.proofs.lemmas.List.Elements.{All-contains}
use Rattle.col_sets.specs.Sets.{has, columns_where, union, rank, IsColumnSet}
use Rattle.col_sets.specs.Columns.{inside, has-filter, columns_where-set, has_below, has_union}
use Rattle.col_sets.specs.Tests.{both, or_left, or_right, to_test}
use Rattle.script_trees.specs.declared.op.PairOp.TheVariants.{And, Eq}
use Rattle.scope_expr.specs.declared.expr.Expr.{Expr, end_of-Expr, more_of-Expr}
use Rattle.scope_expr.specs.declared.expr.Expr.TheVariants.{Literal, Col, Neg', Not', Pair'}
use Rattle.fd_closure.specs.declared.facts.Facts.{Facts}
use Rattle.logical_trees.specs.declared.args.GroupArgs.{GroupArgs}
use Rattle.logical_trees.specs.declared.logic_op.LogicOp.{LogicOp}
use Rattle.logical_trees.specs.declared.logic_op.LogicOp.TheVariants.{Ref, Filter, Project, Join, Group, Process, Reduce, Combine, Partial, Finish}
use Rattle.logical_trees.specs.Tree.{Expression, leaf, one, two, one_columns, group_columns, columns_of}
use Rattle.logical_trees.specs.Formed.{IsGroup, IsOver, IsFormed, IsOneFormed}
use Rattle.logical_dag.proofs.Either.{from_either, either_both, either_second}
use Rattle.logical_dag.proofs.Classes.{linked_none}
use Rattle.logical_dag.specs.Facts.{IsLinked, stated, itself, turned, chained, SomeConjunct, Equates, IsColumnAndLiteral, AreColumns, SetsConstant, SetsEqual, is_column, ref_name, item_name, key_name, Renamed, BothRenamed, DependencyRenamed, IsAggregate, result_columns, name_above, MakesConstant, MakesDependent, MakesEqual, IsConstant, Determines, IsStatedEqual, AreEqual}
use Rattle.logical_trees.specs.ColumnLemmas.{has_at, into_union}
use Rattle.logical_trees.specs.GroupRowLemmas.{key_column, agg_column}

-- facts that speak of no other columns than these, but that a column is equal to itself
pub record AreAbout (C : ℕ → Type 0) (D : List ℕ → ℕ → Type 0) (E : ℕ → ℕ → Type 0) (cols : List ℕ) : Type 0 where
  pub constants : (c : ℕ) → C c → has cols c ≡ true
  pub determined : (s : List ℕ) (c : ℕ) → D s c → has cols c ≡ true
  pub by : (s : List ℕ) (c d : ℕ) → D s c → has s d ≡ true → has cols d ≡ true
  pub equal : (c d : ℕ) → E c d → (c ≡ d) ⊎ ((has cols c ≡ true) × (has cols d ≡ true))

-- where linked columns are stated of these columns, so are those that chains link
pub linked_about : (P : ℕ → ℕ → Type 0) (cols : List ℕ) → ((c d : ℕ) → P c d → (c ≡ d) ⊎ ((has cols c ≡ true) × (has cols d ≡ true)))
    → (c d : ℕ) → IsLinked P c d → (c ≡ d) ⊎ ((has cols c ≡ true) × (has cols d ≡ true))
linked_about P cols h c d (stated p) = h c d p
linked_about P cols h c d itself = inl refl
linked_about P cols h c d (turned l) = either_both sym (λ k. (k.1, k.0)) (linked_about P cols h d c l)
linked_about P cols h c d (chained {d = e} l m) = go (linked_about P cols h c e l) (linked_about P cols h e d m)
  where
    go : (c ≡ e) ⊎ ((has cols c ≡ true) × (has cols e ≡ true)) → (e ≡ d) ⊎ ((has cols e ≡ true) × (has cols d ≡ true)) → (c ≡ d) ⊎ ((has cols c ≡ true) × (has cols d ≡ true))
    go (inl i) (inl j) = inl (i ∙ j)
    go (inl i) (inr k) = inr (subst (λ (b : ℕ). has cols b ≡ true) (sym i) k.0, k.1)
    go (inr k) (inl j) = inr (k.0, subst (λ (b : ℕ). has cols b ≡ true) j k.1)
    go (inr k) (inr m) = inr (k.0, m.1)

-- what a predicate's equation of two sides gives, of a property that passes from `&&` to its sides
pub from_conjunct : (R : Expr → Expr → Type 0) (Q : Expr → Type 0) (G : Type 0)
    → ((s a t b : _) → Q (Pair' And s (more_of-Expr a end_of-Expr) t (more_of-Expr b end_of-Expr)) → Q a × Q b)
    → ((s a t b : _) → R a b → Q (Pair' Eq s (more_of-Expr a end_of-Expr) t (more_of-Expr b end_of-Expr)) → G)
    → (e : Expr) → SomeConjunct (Equates R) e → Q e → G
from_conjunct R Q G split found (Literal v) h q = absurd h
from_conjunct R Q G split found (Col c k) h q = absurd h
from_conjunct R Q G split found (Neg' s a) h q = absurd h
from_conjunct R Q G split found (Not' s a) h q = absurd h
from_conjunct R Q G split found (Pair' And s (more_of-Expr a end_of-Expr) t (more_of-Expr b end_of-Expr)) (inl h) q = from_conjunct R Q G split found a h (split s a t b q).0
from_conjunct R Q G split found (Pair' And s (more_of-Expr a end_of-Expr) t (more_of-Expr b end_of-Expr)) (inr h) q = from_conjunct R Q G split found b h (split s a t b q).1
from_conjunct R Q G split found (Pair' Eq s (more_of-Expr a end_of-Expr) t (more_of-Expr b end_of-Expr)) h q = found s a t b h q
from_conjunct R Q G split found (Pair' op s a t b) h q = absurd h

-- a column of which one side is the column and the other a literal is a column of the sides
literal_over : (cols : List ℕ) (c : ℕ) (a b : Expr) → IsColumnAndLiteral c a b → IsOver cols a × IsOver cols b → has cols c ≡ true
literal_over cols c (Col d k) (Literal v) e h = subst (λ (i : ℕ). has cols i ≡ true) (sym e) h.0
literal_over cols c (Literal v) (Col d k) e h = subst (λ (i : ℕ). has cols i ≡ true) (sym e) h.1
literal_over cols c (Literal v) b e h = absurd e
literal_over cols c (Col d k) b e h = absurd e
literal_over cols c (Neg' s a) b e h = absurd e
literal_over cols c (Not' s a) b e h = absurd e
literal_over cols c (Pair' op s a t b) d e h = absurd e

-- and so are columns that are the sides
columns_over : (cols : List ℕ) (c d : ℕ) (a b : Expr) → AreColumns c d a b → IsOver cols a × IsOver cols b → (has cols c ≡ true) × (has cols d ≡ true)
columns_over cols c d (Col i j) (Col k l) e h = (subst (λ (i : ℕ). has cols i ≡ true) (sym e.0) h.0, subst (λ (i : ℕ). has cols i ≡ true) (sym e.1) h.1)
columns_over cols c d (Col i j) b e h = absurd e
columns_over cols c d (Literal v) b e h = absurd e
columns_over cols c d (Neg' s a) b e h = absurd e
columns_over cols c d (Not' s a) b e h = absurd e
columns_over cols c d (Pair' op s a t b) f e h = absurd e

-- a predicate sets columns constant that it has
pub constant_over : (cols : List ℕ) (e : Expr) (c : ℕ) → IsOver cols e → SetsConstant e c → has cols c ≡ true
constant_over cols e c over h =
    from_conjunct (IsColumnAndLiteral c) (IsOver cols) (has cols c ≡ true) (λ s a t b q. q) (λ s a t b r q. literal_over cols c a b r q) e h over

-- and columns equal that it has
pub equal_over : (cols : List ℕ) (e : Expr) (c d : ℕ) → IsOver cols e → SetsEqual e c d → (has cols c ≡ true) × (has cols d ≡ true)
equal_over cols e c d over h =
    from_conjunct (AreColumns c d) (IsOver cols) ((has cols c ≡ true) × (has cols d ≡ true)) (λ s a t b q. q) (λ s a t b r q. columns_over cols c d a b r q) e h over

-- what a Ref names is a column of its
pub ref_image : (result cols : List ℕ) (b c : ℕ) → ref_name result cols b ≡ Some c → has cols c ≡ true
ref_image result cols b c h = go (has result b) h
  where
    go : (t : Bool) → (if t then slice_get cols (rank result b) else None) ≡ Some c → has cols c ≡ true
    go true k = has_at cols (rank result b) c k
    go false k = absurd (cc)

-- and of a column of the shared result
pub ref_source : (result cols : List ℕ) (b c : ℕ) → ref_name result cols b ≡ Some c → (has result b ≡ true) × (slice_get cols (rank result b) ≡ Some c)
ref_source result cols b c h = go (has result b) h
  where
    go : (t : Bool) → (if t then slice_get cols (rank result b) else None) ≡ Some c → (t ≡ true) × (slice_get cols (rank result b) ≡ Some c)
    go true k = (refl, k)
    go false k = absurd (cc)

-- what a Project names is a column of its
pub item_image : (items : List Expr) (cols : List ℕ) (b c : ℕ) → item_name items cols b ≡ Some c → has cols c ≡ true
item_image items cols b c h = go (position (is_column b) items) h
  where
    go : (o : Option ℕ) → option_and_then (slice_get cols) o ≡ Some c → has cols c ≡ true
    go None k = absurd (cc)
    go (Some i) k = has_at cols i c k

-- what keeps its name is of the key
pub key_source : (keys : List ℕ) (b c : ℕ) → key_name keys b ≡ Some c → (has keys b ≡ true) × (b ≡ c)
key_source keys b c h = go (has keys b) h
  where
    go : (t : Bool) → (if t then Some b else None) ≡ Some c → (t ≡ true) × (b ≡ c)
    go true k = (refl, cc)
    go false k = absurd (cc)

-- and a column of the key keeps its name
pub key_named : (keys : List ℕ) (c : ℕ) → has keys c ≡ true → key_name keys c ≡ Some c
key_named keys c h = ap (λ b. if b then Some c else None) h

-- columns of aggregates are among the columns of a group
pub aggregate_column : (args : GroupArgs) (c : ℕ) → IsGroup args → IsAggregate args c → has (group_columns args) c ≡ true
aggregate_column args c group h =
    let there : has (map (λ a. a.id) args.aggs) h.1.id ≡ true = All-contains (λ a. has (map (λ b. b.id) args.aggs) a.id ≡ true) args.aggs h.1 (agg_column args.aggs) (h.0, h.2, h.3) in
    let low : h.1.id < 128 = All-contains (λ a. a.id < 128) args.aggs h.1 group.below (h.0, h.2, h.3) in
    subst (λ (i : ℕ). has (group_columns args) i ≡ true) h.4 (has_union args.keys (map (λ a. a.id) args.aggs) h.1.id low (inr there))

-- and so is what keeps its name
pub name_column : (args : GroupArgs) (b c : ℕ) → IsGroup args → key_name args.keys b ≡ Some c → has (group_columns args) c ≡ true
name_column args b c group h = let k = key_source args.keys b c h in key_column args group c (subst (λ (i : ℕ). has args.keys i ≡ true) k.1 k.0)

-- names above a node are of its columns
above_image : (cols : List ℕ) (op : LogicOp) → IsOneFormed cols op → (b c : ℕ) → has cols b ≡ true → name_above op b ≡ Some c → has (one_columns op cols) c ≡ true
above_image cols (Project items new) over b c h e = item_image items new b c e
above_image cols (Group args) over b c h e = name_column args b c over.0 e
above_image cols (Partial args) over b c h e = name_column args b c over.0 e
above_image cols (Finish args) over b c h e = name_column args b c over e
above_image cols (Process call) over b c h e = absurd (cc)
above_image cols (Reduce call on presort) over b c h e = absurd (cc)
above_image cols op over b c h e = let same : b ≡ c = cc in subst (λ (i : ℕ). has cols i ≡ true) same h

-- what it makes constant, dependent and equal are its columns
makes_constant : (cols : List ℕ) (op : LogicOp) → IsOneFormed cols op → (c : ℕ) → MakesConstant op c → has (one_columns op cols) c ≡ true
makes_constant cols (Filter e) over c m = constant_over cols e c over m
makes_constant cols (Project items new) over c m = has_at new m.0 c m.1
makes_constant cols (Group args) over c m = aggregate_column args c over.0 m.1
makes_constant cols (Finish args) over c m = aggregate_column args c over m.1
makes_constant cols op over c m = absurd m

makes_dependent : (cols : List ℕ) (op : LogicOp) → IsOneFormed cols op → (s : List ℕ) (c : ℕ) → MakesDependent op s c
    → (has (one_columns op cols) c ≡ true) × ((d : ℕ) → has s d ≡ true → has (one_columns op cols) d ≡ true)
makes_dependent cols (Group args) over s c m = (aggregate_column args c over.0 m.2, λ d k. key_column args over.0 d (subst (λ (r : List ℕ). has r d ≡ true) m.1 k))
makes_dependent cols (Finish args) over s c m = (aggregate_column args c over m.2, λ d k. key_column args over d (subst (λ (r : List ℕ). has r d ≡ true) m.1 k))
makes_dependent cols op over s c m = absurd m

makes_equal : (cols : List ℕ) (op : LogicOp) → IsOneFormed cols op → (c d : ℕ) → MakesEqual op c d → (has (one_columns op cols) c ≡ true) × (has (one_columns op cols) d ≡ true)
makes_equal cols (Filter e) over c d m = equal_over cols e c d over m
makes_equal cols (Project items new) over c d m = (has_at new m.0 c m.3, has_at new m.1 d m.4)
makes_equal cols op over c d m = absurd m

module _ (shared : List Facts) where
  abbrev About : Expression → Type 0
  About t = AreAbout (IsConstant shared t) (Determines shared t) (AreEqual shared t) (columns_of t)

  nothing_about : (cols : List ℕ) → AreAbout (λ c. ⊥) (λ s c. ⊥) (IsLinked (λ c d. ⊥)) cols
  nothing_about cols = record { constants = λ c h. absurd h; determined = λ s c h. absurd h; by = λ s c d h. absurd h; equal = λ c d h. inl (linked_none _ (λ a b n. n) c d h) }

  -- the facts of a node speak of its columns where those below it speak of theirs
  above_about : (op : LogicOp) (t : Expression) → IsOneFormed (columns_of t) op → About t → About (one op t)
  above_about op t over h = record {
    constants = λ c. from_either (λ m. image m.0 c (h.constants m.0 m.1) m.2) (makes_constant (columns_of t) op over c);
    determined = λ s c. from_either (λ m. image m.1 c (h.determined m.0 m.1 m.2) m.3) (λ m. (makes_dependent (columns_of t) op over s c m).0);
    by = λ s c d m k. from_either (λ n. let r = (n.4.just d).0 k in image r.0 d (h.by n.0 n.1 r.0 n.2 r.1) r.2) (λ n. (makes_dependent (columns_of t) op over s c n).1 d k) m;
    equal = linked_about (IsStatedEqual shared (one op t)) (one_columns op (columns_of t)) (λ c d. from_either (kept c d) (λ m. inr (makes_equal (columns_of t) op over c d m)));
  }
    where
      image : (b c : ℕ) → has (columns_of t) b ≡ true → name_above op b ≡ Some c → has (one_columns op (columns_of t)) c ≡ true
      image = above_image (columns_of t) op over

      kept : (c d : ℕ) → BothRenamed (name_above op) (AreEqual shared t) c d → (c ≡ d) ⊎ ((has (one_columns op (columns_of t)) c ≡ true) × (has (one_columns op (columns_of t)) d ≡ true))
      kept c d m =
          either_both (λ e. let same : Some c ≡ Some d = sym m.3 ∙ ap (name_above op) e ∙ m.4 in let at : c ≡ d = cc in at)
          (λ k. (image m.0 c k.0 m.3, image m.1 d k.1 m.4)) (h.equal m.0 m.1 m.2)

  module _ (left right cols : List ℕ) (into : (c : ℕ) → (has left c ≡ true) ⊎ (has right c ≡ true) → has cols c ≡ true) (C K : ℕ → Type 0) (D L : List ℕ → ℕ → Type 0) (E F : ℕ → ℕ → Type 0)
      (h : AreAbout C D E left) (k : AreAbout K L F right) where
    sides_constants : (c : ℕ) → C c ⊎ K c → has cols c ≡ true
    sides_constants c m = into c (either_both (h.constants c) (k.constants c) m)

    sides_determined : (s : List ℕ) (c : ℕ) → D s c ⊎ L s c → has cols c ≡ true
    sides_determined s c m = into c (either_both (h.determined s c) (k.determined s c) m)

    sides_by : (s : List ℕ) (c d : ℕ) → D s c ⊎ L s c → has s d ≡ true → has cols d ≡ true
    sides_by s c d m n = into d (either_both (λ o. h.by s c d o n) (λ o. k.by s c d o n) m)

    sides_equal : (on : List (ℕ × ℕ)) → All (λ p. (has left p.0 ≡ true) × (has right p.1 ≡ true)) on → (c d : ℕ) → E c d ⊎ (F c d ⊎ Contains on (c, d))
        → (c ≡ d) ⊎ ((has cols c ≡ true) × (has cols d ≡ true))
    sides_equal on sides c d (inl m) = either_second (λ n. (into c (inl n.0), into d (inl n.1))) (h.equal c d m)
    sides_equal on sides c d (inr (inl m)) = either_second (λ n. (into c (inr n.0), into d (inr n.1))) (k.equal c d m)
    sides_equal on sides c d (inr (inr m)) =
        let n = All-contains (λ p. (has left p.0 ≡ true) × (has right p.1 ≡ true)) on (c, d) sides m in inr (into c (inl n.0), into d (inr n.1))

  -- the facts of an expression speak of its columns
  pub known_about : (results : List (List ℕ)) (t : Expression) → IsFormed results t → About t
  known_about results (leaf (Ref i cols)) h = record {
    constants = λ c m. image m.0 c m.2;
    determined = λ s c m. image m.1 c m.3;
    by = λ s c d m k. let r = (m.4.just d).0 k in image r.0 d r.2;
    equal = linked_about (IsStatedEqual shared (leaf (Ref i cols))) cols (λ c d m. inr (image m.0 c m.3, image m.1 d m.4));
  }
    where
      image : (b c : ℕ) → ref_name (result_columns shared i) cols b ≡ Some c → has cols c ≡ true
      image = ref_image (result_columns shared i) cols
  known_about results (leaf op) h = nothing_about (columns_of (leaf op))
  known_about results (one op t) h = above_about op t h.1 (known_about results t h.0)
  known_about results (two (Combine call on before beside) t u) h = nothing_about call.cols
  known_about results (two (Join on) t u) h =
      let left = known_about results t h.0 in
      let right = known_about results u h.1 in
      let into : (c : ℕ) → (has (columns_of t) c ≡ true) ⊎ (has (columns_of u) c ≡ true) → has (union (columns_of t) (columns_of u)) c ≡ true = into_union results t u h.0 h.1 in
      record {
        constants = sides_constants (columns_of t) (columns_of u) _ into _ _ _ _ _ _ left right;
        determined = sides_determined (columns_of t) (columns_of u) _ into _ _ _ _ _ _ left right;
        by = sides_by (columns_of t) (columns_of u) _ into _ _ _ _ _ _ left right;
        equal = linked_about _ _ (sides_equal (columns_of t) (columns_of u) _ into _ _ _ _ _ _ left right on.items h.2.sides);
      }
  known_about results (two op t u) h = nothing_about (union (columns_of t) (columns_of u))
