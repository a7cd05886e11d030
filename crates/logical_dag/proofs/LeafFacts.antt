-- Facts to which those of one leaf were added.
use Rattle.std.proofs.Common.{◌≡◌, ℕ, ◌<◌, Bool, true, false, List, [], ◌∷◌, refl, sym, ap, ◌∙◌, ◌⊎◌, inl, inr}
use Rattle.std.specs.Prelude.{Contains}
use Rattle.col_sets.specs.Sets.{has, union}
use Rattle.fd_closure.specs.declared.facts.Facts.{Facts}
use Rattle.fd_closure.specs.Known.{by_of, equal_of}
use Rattle.logical_trees.specs.Tree.{Expression, columns_of}
use Rattle.logical_trees.specs.Formed.{IsFormed}
use Rattle.logical_trees.specs.Blocks.{SomeLeaf}
use Rattle.logical_trees.specs.ColumnLemmas.{columns_set}
use Rattle.logical_trees.specs.LeafLemmas.{union_none}
use Rattle.list_lemmas.specs.Members.{in_list}
use Rattle.logical_dag.specs.Facts.{stated, IsConstant, Determines, AreEqual, AreFactsOf}
use Rattle.logical_dag.specs.Known.{IsDependency, IsOwn, AreJoined, AreApart}
use Rattle.logical_dag.specs.Gathered.{IsOverColumns, IsApartFrom, AreAdded}
use Rattle.logical_dag.proofs.Classes.{classes_start, classes_same}
use Rattle.logical_dag.proofs.Constants.{constants_same}
use Rattle.logical_dag.proofs.Dependencies.{dependencies_same}
use Rattle.logical_dag.proofs.Either.{from_either, either_second}
use Rattle.logical_dag.proofs.JoinTables.{joined_constants, joined_dependencies, joined_classes}
use Rattle.logical_dag.proofs.KnownColumns.{known_about}
use Rattle.logical_dag.proofs.KnownTables.{facts_classes, determined_low, equal_within}

module _ (shared : List Facts) (results : List (List ℕ)) (t : Expression) (formed : IsFormed results t) (into facts f : Facts) (own : IsOwn into) (known : AreFactsOf shared t facts)
    (joined : AreJoined [] into facts f) where
  -- of one leaf
  alone : {A B : Type 0} → A ⊎ B → A ⊎ (B ⊎ ⊥)
  alone = either_second inl

  -- and no other
  single : {A B : Type 0} → A ⊎ (B ⊎ ⊥) → A ⊎ B
  single = either_second (from_either (λ m. m) (λ m. absurd m))

  no_pair : {A B : Type 0} (c d : ℕ) → A ⊎ (B ⊎ Contains {X = ℕ × ℕ} [] (c, d)) → A ⊎ B
  no_pair c d = either_second (from_either (λ m. m) (λ m. absurd (in_list [] (c, d) m)))

  -- the facts of the leaf are added
  pub one_added : AreAdded shared into (t ∷ []) f
  one_added = record {
    columns = joined.columns ∙ ap (union into.columns) (known.columns ∙ sym (union_none (columns_of t) (columns_set results t formed)));
    constants = constants_same f _ _ (joined_constants [] into facts f joined (λ c. has into.constants c ≡ true) (IsConstant shared t) (λ c l. (λ m. m, λ m. m)) known.constants) (λ c. alone) (λ c. single);
    dependencies = dependencies_same f _ _
        (joined_dependencies [] into facts f joined (IsDependency into) (Determines shared t) (λ s c m. m.0) (determined_low shared t facts results formed known)
        (record { stated = λ c l m. (l, m, refl); all = λ s c m. (m.1, λ d. ap (λ (r : List ℕ). has r d) m.2) }) (record { stated = known.stated; all = known.all }))
        (λ s c. alone) (λ s c. single);
    classes = classes_same f _
        (joined_classes [] into facts f joined (λ c d. equal_of into c d ≡ true) (AreEqual shared t) (classes_start into own) (facts_classes shared t facts results formed known) (equal_within shared t facts results formed known))
        (λ c d. (equal_of into c d ≡ true) ⊎ SomeLeaf (λ u. AreEqual shared u c d) (t ∷ [])) (λ c d m. stated (alone (no_pair c d m))) (λ c d m. stated (either_second inl (single m)));
  }

-- no column has a dependency by what there was and by the leaf
pub leaf_apart : (shared : List Facts) (results : List (List ℕ)) (t : Expression) (into facts : Facts) → IsFormed results t → IsOverColumns into
    → IsApartFrom into.columns t → AreFactsOf shared t facts → AreApart into facts
leaf_apart shared results t into facts formed over apart known c l h = go (has into.determined c) refl
  where
    column : has (columns_of t) c ≡ true
    column = (known_about shared results t formed).determined (by_of facts c) c (known.stated c l h)

    go : (b : Bool) → has into.determined c ≡ b → has into.determined c ≡ false
    go false e = e
    go true e = absurd (apart c (over.within c l e) column)
