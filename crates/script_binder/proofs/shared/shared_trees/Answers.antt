use Rattle.std.proofs.Common.{◌≡◌, ◌<◌, [], ◌∷◌, List, ℕ, length, map, get_or, take, ◌+◌, ap, sym, ◌∙◌, subst}
use Rattle.std.proofs.lemmas.List.{map-append}
use Rattle.logical_trees.specs.declared.logical.Logical.{Logical}
use Rattle.logical_trees.specs.Tree.{tree_of}
use Rattle.script_meaning.specs.Bound.{parts_of}
use Rattle.script_meaning.specs.Dag.{place_in, outs_of, kept_of}
use Rattle.script_binder.specs.Steps.{IsTreeMade, AreTreesMade}
use Rattle.script_binder.proofs.Outs.{same_item, kept_there}
use Rattle.script_binder.proofs.Trees.{trees_more, trees_room}
use Rattle.script_binder.proofs.shared.shared_trees.Goals as goal

pub result_tree-requires-clause-there : goal.result_tree-requires-clause-there
result_tree-requires-clause-there c =
    let script = c.args.script.now in
    let i = c.loop-at.at-index in
    let ks = c.as_slice-at-items.result.now in
    let same : ks ≡ kept_of (outs_of script) (parts_of script) = c.as_slice-at-items.ensures.value ∙ c.requires.sharing.kept in
    let lt : i < length ks = c.loop-at-test.true in
    subst (λ (xs : List ℕ). get_or xs i 0 < length script) (sym same) (kept_there script (outs_of script) i 0 (subst (λ (xs : List ℕ). i < length xs) same lt))

pub result_tree-requires-clause-room : goal.result_tree-requires-clause-room
result_tree-requires-clause-room c =
    let i = c.loop-at.at-index in
    let ks = c.as_slice-at-items.result.now in
    let of = c.args.sharing.now.kept.items in
    let same : ks ≡ of = c.as_slice-at-items.ensures.value in
    let lt : i < length ks = c.loop-at-test.true in
    trees_room c.args.script.now (place_in of) of i (get_or ks i 0) c.args.scans.now.items c.loop-at.scans.items (map tree_of c.loop-at.trees)
    (subst (λ (xs : List ℕ). i < length xs) same lt) (same_item ks of i same lt) c.loop-at.invariant c.requires.room

pub loop-at-preserved : goal.loop-at-preserved
loop-at-preserved c =
    let script = c.args.script.now in
    let i = c.loop-at.at-index in
    let ks = c.as_slice-at-items.result.now in
    let of = c.args.sharing.now.kept.items in
    let same : ks ≡ of = c.as_slice-at-items.ensures.value in
    let lt : i < length ks = c.loop-at-test.true in
    let name = place_in of in
    let k = get_or ks i 0 in
    let t = c.tree_in.result in
    let middle = c.loop-at.scans.items in
    let after = c.result_tree.new.scans.items in
    let one : IsTreeMade script name k middle after (tree_of t) =
    subst (λ (u : Logical). IsTreeMade script name k middle after (tree_of u)) (sym c.tree_in.ensures) (record { tree = c.in_ok-made.ensures.made.tree; scans = c.in_ok-made.ensures.scans }) in
    subst (AreTreesMade script name (take (i + 1) of) c.args.scans.now.items after) (sym (ap (map tree_of) c.in_ok-push.ensures.ok ∙ map-append tree_of c.loop-at.trees (t ∷ [])))
    (trees_more script c.requires.standing.placed name of i k c.args.scans.now.items middle after (map tree_of c.loop-at.trees) (tree_of t)
    (subst (λ (xs : List ℕ). i < length xs) same lt) (same_item ks of i same lt) c.loop-at.invariant one)
