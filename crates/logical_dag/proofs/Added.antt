-- Facts to which those of leaves were added.
use Rattle.std.proofs.Common.{◌≡◌, ℕ, ◌<◌, ◌/◌, ◌%◌, Bool, true, false, cond, ◌&&◌, List, [], ◌∷◌, ◌++◌, nat_eq, nat_lt, refl, sym, ap, ◌∙◌, subst, arith, ◌⊎◌, inl, inr}
use Rattle.std.specs.Prelude.{◌↔◌}
use Rattle.std.proofs.lemmas.Bool.Decides.{nat_tests}
use Rattle.col_sets.specs.Sets.{has, union, IsColumnSet}
use Rattle.col_sets.specs.Columns.{columns_where-set, columns_none, sets_same, union_has, has_union}
use Rattle.col_sets.specs.Tests.{both, and_true, same_tests, from_test, to_test}
use Rattle.fd_closure.specs.declared.facts.Facts.{Facts}
use Rattle.fd_closure.specs.Known.{by_of, equal_of}
use Rattle.logical_trees.specs.Tree.{Expression}
use Rattle.logical_trees.specs.Formed.{IsFormed}
use Rattle.logical_dag.specs.Facts.{IsLinked, stated, IsConstant, Determines, AreEqual}
use Rattle.logical_dag.specs.Known.{IsDependency, AreConstants, AreDependencies, AreClasses}
use Rattle.logical_trees.specs.Blocks.{SomeLeaf, columns_of_all, chosen}
use Rattle.logical_dag.specs.BlockFacts.{IsInside, AreFactsOfAll}
use Rattle.logical_dag.specs.Gathered.{bits_after, IsBlank, IsOverColumns, AreAdded}
use Rattle.logical_dag.proofs.Either.{from_either, either_both, either_second, regrouped, ungrouped}
use Rattle.logical_dag.proofs.Classes.{linked_bind, linked_same, classes_same, classes_linked, classes_chain, classes_kept}
use Rattle.logical_dag.proofs.Constants.{constants_same, constants_chain, constants_kept}
use Rattle.logical_dag.proofs.Dependencies.{dependencies_same, dependencies_chain, dependencies_kept}
use Rattle.logical_dag.proofs.KnownColumns.{known_about}
use Rattle.logical_trees.specs.LeafLemmas.{some_left, some_right, some_either, EachLeaf, HasColumn, formed_sets, union_none, all_columns_set, all_columns_some, some_all_columns, some_below}
use Rattle.logical_dag.proofs.PairFacts.{EqualOrInside}

-- ---- masks

-- the chosen ones of two lists
pub chosen-append : {X : Type 0} (mask : ℕ) (xs ys : List X) → chosen mask (xs ++ ys) ≡ chosen mask xs ++ chosen (bits_after xs mask) ys
chosen-append mask [] ys = refl
chosen-append {X = X} mask (x ∷ xs) ys = go (nat_eq (mask % 2) 1) (chosen-append (mask / 2) xs ys)
  where
    go : (b : Bool) → chosen (mask / 2) (xs ++ ys) ≡ chosen (mask / 2) xs ++ chosen (bits_after xs (mask / 2)) ys
        → cond b (x ∷ chosen (mask / 2) (xs ++ ys)) (chosen (mask / 2) (xs ++ ys)) ≡ cond b (x ∷ chosen (mask / 2) xs) (chosen (mask / 2) xs) ++ chosen (bits_after xs (mask / 2)) ys
    go true h = ap (λ zs. x ∷ zs) h
    go false h = h

-- and the bits after both
pub bits_after-append : {X : Type 0} (xs ys : List X) (mask : ℕ) → bits_after (xs ++ ys) mask ≡ bits_after ys (bits_after xs mask)
bits_after-append [] ys mask = refl
bits_after-append (x ∷ xs) ys mask = bits_after-append xs ys (mask / 2)

module _ (shared : List Facts) (results : List (List ℕ)) where
  -- ---- what leaves that are formed speak of

  -- a column that some leaf determines is one of its columns
  pub determined_column : (leaves : List Expression) → EachLeaf (IsFormed results) leaves → (s : List ℕ) (c : ℕ) → SomeLeaf (λ t. Determines shared t s c) leaves → SomeLeaf (HasColumn c) leaves
  determined_column [] formed s c h = absurd h
  determined_column (t ∷ leaves) formed s c (inl h) = inl ((known_about shared results t (formed t (inl refl))).determined s c h)
  determined_column (t ∷ leaves) formed s c (inr h) = inr (determined_column leaves (λ u m. formed u (inr m)) s c h)

  -- a column of the leaves is below 128
  pub leaf_below : (leaves : List Expression) → EachLeaf (IsFormed results) leaves → (c : ℕ) → SomeLeaf (HasColumn c) leaves → c < 128
  leaf_below leaves formed c h = some_below leaves (formed_sets results leaves formed) c h

  -- ---- adding

  -- no leaves add nothing
  pub none_added : (f : Facts) → IsOverColumns f → AreAdded shared f [] f
  none_added f over = record {
    columns = sym (union_none f.columns over.set);
    constants = constants_kept f (λ c. ⊥) (λ c h. h);
    dependencies = dependencies_kept f (λ s c. ⊥) (λ s c h. h);
    classes = classes_kept f (λ c d. ⊥) over.own (λ c d h. h);
  }

  -- with leaves added the facts are still over a set of columns
  pub added_over : (f g : Facts) (leaves : List Expression) → EachLeaf (IsFormed results) leaves → IsOverColumns f → AreAdded shared f leaves g → IsOverColumns g
  added_over f g leaves formed over added = record {
    set = subst (λ (s : List ℕ). IsColumnSet s) (sym added.columns) (columns_where-set _);
    own = added.classes.own;
    within = λ c l h. subst (λ (s : List ℕ). has s c ≡ true) (sym added.columns) (has_union f.columns (columns_of_all leaves) c l (go c l (added.dependencies.stated c l h)));
  }
    where
      go : (c : ℕ) → c < 128 → IsDependency f (by_of g c) c ⊎ SomeLeaf (λ t. Determines shared t (by_of g c) c) leaves → (has f.columns c ≡ true) ⊎ (has (columns_of_all leaves) c ≡ true)
      go c l (inl h) = inl (over.within c l h.1)
      go c l (inr h) = inr (some_all_columns leaves c l (determined_column leaves formed (by_of g c) c h))

  -- some leaves and then others are all of them
  module _ (f g h : Facts) (xs ys : List Expression) (formed : EachLeaf (IsFormed results) xs) (first : AreAdded shared f xs g) (second : AreAdded shared g ys h) where
    both_columns : union (union f.columns (columns_of_all xs)) (columns_of_all ys) ≡ union f.columns (columns_of_all (xs ++ ys))
    both_columns = sets_same _ _ (columns_where-set _) (columns_where-set _) (λ c l. same_tests _ _ (λ m. forth c l (union_has _ _ c m)) (λ m. back c l (union_has _ _ c m)))
      where
        into_all : (c : ℕ) → c < 128 → (has f.columns c ≡ true) ⊎ SomeLeaf (HasColumn c) (xs ++ ys) → has (union f.columns (columns_of_all (xs ++ ys))) c ≡ true
        into_all c l (inl m) = has_union f.columns (columns_of_all (xs ++ ys)) c l (inl m)
        into_all c l (inr m) = has_union f.columns (columns_of_all (xs ++ ys)) c l (inr (some_all_columns (xs ++ ys) c l m))

        forth : (c : ℕ) → c < 128 → (has (union f.columns (columns_of_all xs)) c ≡ true) ⊎ (has (columns_of_all ys) c ≡ true) → has (union f.columns (columns_of_all (xs ++ ys))) c ≡ true
        forth c l (inr m) = into_all c l (inr (some_right (HasColumn c) xs ys (all_columns_some ys c m)))
        forth c l (inl m) = into_all c l (either_second (λ n. some_left (HasColumn c) xs ys (all_columns_some xs c n)) (union_has f.columns (columns_of_all xs) c m))

        back : (c : ℕ) → c < 128 → (has f.columns c ≡ true) ⊎ (has (columns_of_all (xs ++ ys)) c ≡ true) → has (union (union f.columns (columns_of_all xs)) (columns_of_all ys)) c ≡ true
        back c l (inl m) = has_union _ _ c l (inl (has_union _ _ c l (inl m)))
        back c l (inr m) =
            has_union _ _ c l (either_both (λ n. has_union _ _ c l (inr (some_all_columns xs c l n))) (some_all_columns ys c l) (some_either (HasColumn c) xs ys (all_columns_some (xs ++ ys) c m)))

    -- what some leaf of either list has
    abbrev InEither : (Expression → Type 0) → Type 0 → Type 0
    InEither P A = (A ⊎ SomeLeaf P xs) ⊎ SomeLeaf P ys

    into_both : (P : Expression → Type 0) (A : Type 0) → InEither P A → A ⊎ SomeLeaf P (xs ++ ys)
    into_both P A m = either_second (from_either (some_left P xs ys) (some_right P xs ys)) (regrouped m)

    from_both : (P : Expression → Type 0) (A : Type 0) → A ⊎ SomeLeaf P (xs ++ ys) → InEither P A
    from_both P A m = ungrouped (either_second (some_either P xs ys) m)

    both_constants : AreConstants h (λ c. (has f.constants c ≡ true) ⊎ SomeLeaf (λ t. IsConstant shared t c) (xs ++ ys))
    both_constants =
        constants_same h _ _ (constants_chain g h (λ c. (has f.constants c ≡ true) ⊎ SomeLeaf (λ t. IsConstant shared t c) xs) (λ c. SomeLeaf (λ t. IsConstant shared t c) ys) first.constants second.constants)
        (λ c. into_both (λ t. IsConstant shared t c) (has f.constants c ≡ true)) (λ c. from_both (λ t. IsConstant shared t c) (has f.constants c ≡ true))

    both_dependencies : AreDependencies h (λ s c. IsDependency f s c ⊎ SomeLeaf (λ t. Determines shared t s c) (xs ++ ys))
    both_dependencies =
        dependencies_same h _ _
        (dependencies_chain g h (λ s c. IsDependency f s c ⊎ SomeLeaf (λ t. Determines shared t s c) xs) (λ s c. SomeLeaf (λ t. Determines shared t s c) ys) low first.dependencies second.dependencies)
        (λ s c. into_both (λ t. Determines shared t s c) (IsDependency f s c)) (λ s c. from_both (λ t. Determines shared t s c) (IsDependency f s c))
      where
        low : (s : List ℕ) (c : ℕ) → IsDependency f s c ⊎ SomeLeaf (λ t. Determines shared t s c) xs → c < 128
        low s c = from_either (λ m. m.0) (λ m. leaf_below xs formed c (determined_column xs formed s c m))

    both_classes : AreClasses h (λ c d. (equal_of f c d ≡ true) ⊎ SomeLeaf (λ t. AreEqual shared t c d) (xs ++ ys))
    both_classes =
        classes_same h _ (classes_chain g h (λ c d. (equal_of f c d ≡ true) ⊎ SomeLeaf (λ t. AreEqual shared t c d) xs) (λ c d. SomeLeaf (λ t. AreEqual shared t c d) ys) first.classes second.classes)
        (λ c d. (equal_of f c d ≡ true) ⊎ SomeLeaf (λ t. AreEqual shared t c d) (xs ++ ys))
        (λ c d m. stated (into_both (λ t. AreEqual shared t c d) (equal_of f c d ≡ true) m)) (λ c d m. stated (from_both (λ t. AreEqual shared t c d) (equal_of f c d ≡ true) m))

    pub both_added : AreAdded shared f (xs ++ ys) h
    both_added = record {
      columns = second.columns ∙ ap (λ (s : List ℕ). union s (columns_of_all ys)) first.columns ∙ both_columns;
      constants = both_constants;
      dependencies = both_dependencies;
      classes = both_classes;
    }

-- ---- from nothing

-- such facts are over a set of columns
pub blank_over : (f : Facts) → IsBlank f → IsOverColumns f
blank_over f blank = record {
  set = subst (λ (s : List ℕ). IsColumnSet s) (sym blank.columns) columns_none;
  own = λ c l. blank.equal c c ∙ same c l;
  within = λ c l h. absurd (let e : has [] c ≡ true = subst (λ (s : List ℕ). has s c ≡ true) blank.determined h in cc);
}
  where
    same : (c : ℕ) → c < 128 → (nat_lt c 128 && nat_eq c c) ≡ true
    same c l = and_true (nat_lt c 128) (nat_eq c c) (let e : nat_lt c 128 ≡ true = grind (arith, nat_tests) in e) (to_test c c refl)

module _ (shared : List Facts) (leaves : List Expression) (pairs : List (ℕ × ℕ)) (f g h : Facts) (blank : IsBlank f) (added : AreAdded shared f leaves g) (rest : h ≡ record g { class = h.class })
    (paired : AreClasses h (EqualOrInside g pairs)) where
  columns_all : g.columns ≡ columns_of_all leaves
  columns_all =
      added.columns ∙ ap (λ (s : List ℕ). union s (columns_of_all leaves)) blank.columns
      ∙ sets_same _ _ (columns_where-set _) (all_columns_set leaves) (λ c l. same_tests _ _ (λ m. one c (union_has [] (columns_of_all leaves) c m)) (λ m. has_union [] (columns_of_all leaves) c l (inr m)))
    where
      one : (c : ℕ) → (has [] c ≡ true) ⊎ (has (columns_of_all leaves) c ≡ true) → has (columns_of_all leaves) c ≡ true
      one c (inl m) = absurd (cc)
      one c (inr m) = m

  later : (s : List ℕ) (c : ℕ) → IsDependency f s c ⊎ SomeLeaf (λ t. Determines shared t s c) leaves → SomeLeaf (λ t. Determines shared t s c) leaves
  later s c (inl m) = absurd (let k = subst (λ (r : List ℕ). has r c ≡ true) blank.determined m.1 in let e : has [] c ≡ true = k in cc)
  later s c (inr m) = m

  -- equal in some leaf, or a pair that lies inside
  abbrev AlikeOrInside : ℕ → ℕ → Type 0
  AlikeOrInside c d = SomeLeaf (λ t. AreEqual shared t c d) leaves ⊎ IsInside pairs g.columns c d

  there : (c d : ℕ) → EqualOrInside g pairs c d → IsLinked AlikeOrInside c d
  there c d (inl m) = linked_bind (λ a b. (equal_of f a b ≡ true) ⊎ SomeLeaf (λ t. AreEqual shared t a b) leaves) AlikeOrInside each c d (added.classes.there c d m)
    where
      each : (a b : ℕ) → (equal_of f a b ≡ true) ⊎ SomeLeaf (λ t. AreEqual shared t a b) leaves → IsLinked AlikeOrInside a b
      each a b (inl n) = linked_same AlikeOrInside a b (from_test a b (both (nat_lt a 128) (nat_eq a b) (sym (blank.equal a b) ∙ n)).1)
      each a b (inr n) = stated (inl n)
  there c d (inr m) = stated (inr m)

  back : (c d : ℕ) → AlikeOrInside c d → IsLinked (EqualOrInside g pairs) c d
  back c d (inl m) = go (added.classes.back c d (stated (inr m)))
    where
      go : (c ≡ d) ⊎ (equal_of g c d ≡ true) → IsLinked (EqualOrInside g pairs) c d
      go (inl e) = linked_same (EqualOrInside g pairs) c d e
      go (inr n) = stated (inl n)
  back c d (inr m) = stated (inr m)

  -- the facts of the leaves, with the pairs, are the facts of all of them
  pub facts_of_all : AreFactsOfAll shared pairs leaves h
  facts_of_all = record {
    columns = ap (λ k. k.columns) rest ∙ columns_all;
    constants = λ c l. (
      λ m. start c ((added.constants c l).0 (subst (λ (s : List ℕ). has s c ≡ true) (ap (λ k. k.constants) rest) m)),
      λ m. subst (λ (s : List ℕ). has s c ≡ true) (sym (ap (λ k. k.constants) rest)) ((added.constants c l).1 (inr m)),
    );
    stated = λ c l m. subst (λ (k : Facts). SomeLeaf (λ t. Determines shared t (by_of k c) c) leaves) (sym rest)
        (later (by_of g c) c (added.dependencies.stated c l (subst (λ (s : List ℕ). has s c ≡ true) (ap (λ k. k.determined) rest) m)));
    all = λ s c m. subst (λ (k : Facts). (has k.determined c ≡ true) × ((d : ℕ) → has s d ≡ has (by_of k c) d)) (sym rest) (added.dependencies.all s c (inr m));
    equal = λ c d l m.
        subst (λ (cols : List ℕ). (equal_of h c d ≡ true) ↔ IsLinked (λ a b. SomeLeaf (λ t. AreEqual shared t a b) leaves ⊎ IsInside pairs cols a b) c d) (sym (ap (λ k. k.columns) rest))
        (classes_linked h AlikeOrInside (classes_same h (EqualOrInside g pairs) paired AlikeOrInside there back) c d l m);
  }
    where
      start : (c : ℕ) → (has f.constants c ≡ true) ⊎ SomeLeaf (λ t. IsConstant shared t c) leaves → SomeLeaf (λ t. IsConstant shared t c) leaves
      start c (inl m) = absurd (let e : has [] c ≡ true = subst (λ (s : List ℕ). has s c ≡ true) blank.constants m in cc)
      start c (inr m) = m
