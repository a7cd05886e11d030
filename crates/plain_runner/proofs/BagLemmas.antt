-- Bags of the first shared trees, and rows of the first outputs, with one more.
use Rattle.std.proofs.Common.{◌≡◌, ℕ, zero, suc, ◌+◌, ◌<◌, ◌≤◌, List, [], ◌∷◌, ◌++◌, map, length, take, refl, sym, ap, ◌∙◌, subst, arith, Option, Some, None, slice_get, get_or, Vec, Global}
use Rattle.std.specs.Prelude.{IfSome, All}
use Rattle.std.proofs.lemmas.List.{length-map, map-append}
use Rattle.std.proofs.lemmas.Option.{slice_get_read}
use Rattle.user_ops.proofs.FitLemmas.{All-slice_get}
use Rattle.user_ops.specs.Told.{Operators}
use Rattle.logical_trees.specs.declared.logical.Logical.{Logical}
use Rattle.logical_trees.specs.Tree.{Expression, tree_of, columns_of}
use Rattle.logical_trees.specs.Rows.{Row, Bag}
use Rattle.logical_trees.specs.Meaning.{Sources, StandsFor}
use Rattle.logical_trees.specs.Formed.{IsWhole}
use Rattle.logical_dag.specs.declared.dag.Dag.{Dag}
use Rattle.logical_dag.specs.declared.dag.Output.{Output}
use Rattle.logical_dag.specs.Scripts.{IsBindable, IsWritten, shared_trees, output_trees}
use Rattle.logical_dag.specs.DagMeaning.{AllStand, Writes, drawn, in_order_opt}
use Rattle.logical_dag.specs.DagMeaningLemmas.{AreWrittenFrom, one_more}
use Rattle.plain_meaning.specs.Plain.{AreThere, sources}
use Rattle.plain_runner.specs.Runs.{AreDagThere, GivesOutput, bags_of}

-- ---- elements of lists

get_front : {X Y : Type 0} (f : X → Y) (xs : List X) (ys : List Y) (i : ℕ) (x : X) → slice_get xs i ≡ Some x → slice_get (map f xs ++ ys) i ≡ Some (f x)
get_front f [] ys i x h = absurd (cc)
get_front f (a ∷ xs) ys zero x h = let same : a ≡ x = cc in ap (λ b. Some (f b)) same
get_front f (a ∷ xs) ys (suc i) x h = get_front f xs ys i x h

get_back : {Y : Type 0} (xs ys : List Y) (i k : ℕ) (y : Y) → k ≡ length xs + i → slice_get ys i ≡ Some y → slice_get (xs ++ ys) k ≡ Some y
get_back [] ys i k y e h = let same : k ≡ i = omega (arith, e) in subst (λ (n : ℕ). slice_get ys n ≡ Some y) (sym same) h
get_back (x ∷ xs) ys i zero y e h = absurd (let f : zero ≡ suc (length xs) + i = e in omega (arith, f))
get_back (x ∷ xs) ys i (suc k) y e h = get_back xs ys i k y (let f : suc k ≡ suc (length xs) + i = e in omega (arith, f)) h

get_map : {X Y : Type 0} (f : X → Y) (xs : List X) (i : ℕ) (x : X) → slice_get xs i ≡ Some x → slice_get (map f xs) i ≡ Some (f x)
get_map f [] i x h = absurd (cc)
get_map f (a ∷ xs) zero x h = let same : a ≡ x = cc in ap (λ b. Some (f b)) same
get_map f (a ∷ xs) (suc i) x h = get_map f xs i x h

take_one : {X : Type 0} (xs : List X) (i : ℕ) (x : X) → slice_get xs i ≡ Some x → take (suc i) xs ≡ take i xs ++ x ∷ []
take_one [] i x h = absurd (cc)
take_one (a ∷ xs) zero x h = let same : a ≡ x = cc in ap (λ b. b ∷ []) same
take_one (a ∷ xs) (suc i) x h = ap (λ l. a ∷ l) (take_one xs i x h)

length_before : {X : Type 0} (xs : List X) (i : ℕ) (x : X) → slice_get xs i ≡ Some x → length (take i xs) ≡ i
length_before [] i x h = absurd (cc)
length_before (a ∷ xs) zero x h = refl
length_before (a ∷ xs) (suc i) x h = ap suc (length_before xs i x h)

kept : {X Y : Type 0} (f : X → Y) (xs : List X) (i k : ℕ) (Q : Y → Type 0) → IfSome (slice_get (map f xs) k) Q → IfSome (slice_get (map f (take i xs)) k) Q
kept f [] zero k Q h = tt
kept f [] (suc i) k Q h = tt
kept f (x ∷ xs) zero k Q h = tt
kept f (x ∷ xs) (suc i) zero Q h = h
kept f (x ∷ xs) (suc i) (suc k) Q h = kept f xs i k Q h

map_one : {X Y : Type 0} (f : X → Y) (xs : List X) (i : ℕ) (x : X) → slice_get xs i ≡ Some x → map f (take (suc i) xs) ≡ map f (take i xs) ++ f x ∷ []
map_one f xs i x h = ap (map f) (take_one xs i x h) ∙ map-append f (take i xs) (x ∷ [])

bags_one : (bags : List (Vec Row Global)) (bag : Vec Row Global) → bags_of (bags ++ bag ∷ []) ≡ bags_of bags ++ bag.items ∷ []
bags_one bags bag = map-append (λ v. v.items) bags (bag ∷ [])

-- ---- shared trees

module _ (ops : Operators) (dag : Dag) (i : ℕ) (tree : Logical) (within : i < length dag.shared) (is : tree ≡ get_or dag.shared i tree) where
  at_shared : slice_get dag.shared i ≡ Some tree
  at_shared = slice_get_read dag.shared (length dag.shared) i tree refl within is

  pub shared_there : AreDagThere ops dag → AreThere ops (tree_of tree)
  shared_there there = All-slice_get (AreThere ops) _ i (tree_of tree) (get_front tree_of dag.shared (output_trees dag) i tree at_shared) there

  shared_written : IsBindable dag → IsWritten (take i (map columns_of (shared_trees dag))) (tree_of tree)
  shared_written b =
      subst (λ (o : Option Expression). IfSome o (IsWritten (take i (map columns_of (shared_trees dag))))) (get_map tree_of dag.shared i tree at_shared) (b.shared i)

  pub shared_whole : IsBindable dag → IsWhole (tree_of tree)
  shared_whole b = (shared_written b).whole

  pub shared_more : (scans bags : List (Vec Row Global)) (bag : Vec Row Global) → IsBindable dag
      → AllStand ops (drawn (bags_of scans) (bags_of bags)) (map tree_of (take i dag.shared)) (bags_of bags)
      → StandsFor ops (sources scans bags) (tree_of tree) bag.items
      → AllStand ops (drawn (bags_of scans) (bags_of (bags ++ bag ∷ []))) (map tree_of (take (i + 1) dag.shared)) (bags_of (bags ++ bag ∷ []))
  shared_more scans bags bag b h k =
      let long : length (map tree_of (take i dag.shared)) ≡ i = length-map (take i dag.shared) tree_of ∙ length_before dag.shared i tree at_shared in
      let w : AreWrittenFrom ops (bags_of scans) (map columns_of (shared_trees dag)) 0 (map tree_of (take i dag.shared)) =
      λ j. kept tree_of dag.shared i j (IsWritten (take (0 + j) (map columns_of (shared_trees dag))))
      (let e : j ≡ 0 + j = omega arith in subst (λ (k : ℕ). IfSome (slice_get (shared_trees dag) j) (IsWritten (take k (map columns_of (shared_trees dag))))) e (b.shared j)) in
      let here : IsWritten (take (length (map tree_of (take i dag.shared))) (map columns_of (shared_trees dag))) (tree_of tree) =
      subst (λ (n : ℕ). IsWritten (take n (map columns_of (shared_trees dag))) (tree_of tree)) (sym long) (shared_written b) in
      let more = one_more ops (bags_of scans) (map columns_of (shared_trees dag)) (map tree_of (take i dag.shared)) (bags_of bags) (tree_of tree) bag.items w here h k in
      let on : i + 1 ≡ suc i = omega arith in
      rw (on, map_one tree_of dag.shared i tree at_shared, bags_one bags bag) more

-- ---- outputs

writes_push : (ops : Operators) (from : Sources) (os : List Output) (rows : List Bag) (o : Output) (W : Bag)
    → Writes ops from (map (λ o. o.order) os) (map (λ o. tree_of o.tree) os) rows → GivesOutput ops from o W
    → Writes ops from (map (λ o. o.order) os ++ o.order ∷ []) (map (λ o. tree_of o.tree) os ++ tree_of o.tree ∷ []) (rows ++ W ∷ [])
writes_push ops from [] [] o W h k = (k, tt)
writes_push ops from (p ∷ os) (V ∷ rows) o W h k = (h.0, writes_push ops from os rows o W h.1 k)
writes_push ops from [] (V ∷ rows) o W h k = absurd h
writes_push ops from (p ∷ os) [] o W h k = absurd h

module _ (ops : Operators) (dag : Dag) (i : ℕ) (o : Output) (within : i < length dag.outputs) (is : o ≡ get_or dag.outputs i o) where
  at_output : slice_get dag.outputs i ≡ Some o
  at_output = slice_get_read dag.outputs (length dag.outputs) i o refl within is

  pub output_there : AreDagThere ops dag → AreThere ops (tree_of o.tree)
  output_there there =
      All-slice_get (AreThere ops) _ (length (shared_trees dag) + i) (tree_of o.tree)
      (get_back (shared_trees dag) (output_trees dag) i (length (shared_trees dag) + i) (tree_of o.tree) refl (get_map (λ o. tree_of o.tree) dag.outputs i o at_output)) there

  pub output_whole : IsBindable dag → IsWhole (tree_of o.tree)
  output_whole b =
      (All-slice_get (IsWritten (map columns_of (shared_trees dag))) (output_trees dag) i (tree_of o.tree) (get_map (λ o. tree_of o.tree) dag.outputs i o at_output) b.outputs).whole

  pub output_more : (scans bags all : List (Vec Row Global)) (rows : Vec Row Global)
      → Writes ops (sources scans bags) (map (λ o. o.order) (take i dag.outputs)) (map (λ o. tree_of o.tree) (take i dag.outputs)) (bags_of all)
      → GivesOutput ops (sources scans bags) o rows.items
      → Writes ops (sources scans bags) (map (λ o. o.order) (take (i + 1) dag.outputs)) (map (λ o. tree_of o.tree) (take (i + 1) dag.outputs)) (bags_of (all ++ rows ∷ []))
  output_more scans bags all rows h k =
      let more = writes_push ops (sources scans bags) (take i dag.outputs) (bags_of all) o rows.items h k in
      let on : i + 1 ≡ suc i = omega arith in
      rw (on, map_one (λ o. o.order) dag.outputs i o at_output, map_one (λ o. tree_of o.tree) dag.outputs i o at_output, bags_one all rows) more
