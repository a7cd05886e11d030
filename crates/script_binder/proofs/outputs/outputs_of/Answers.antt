use Rattle.std.proofs.Common.{◌≡◌, ◌<◌, ◌+◌, [], ◌∷◌, List, ℕ, length, map, take, get_or, ap, sym, ◌∙◌, subst}
use Rattle.std.proofs.lemmas.List.{map-append}
use Rattle.logical_dag.specs.declared.dag.Output.{Output}
use Rattle.logical_trees.specs.Tree.{tree_of}
use Rattle.script_meaning.specs.Dag.{place_in, outs_of}
use Rattle.script_binder.specs.Steps.{AreTreesMade, AreOutputs}
use Rattle.script_binder.proofs.Outs.{same_item, outs_there, outs_output, outputs_more}
use Rattle.script_binder.proofs.Trees.{trees_more, trees_room}
use Rattle.script_binder.proofs.outputs.outputs_of.Goals as goal

pub output_at-requires-clause-there : goal.output_at-requires-clause-there
output_at-requires-clause-there c =
    let i = c.loop-at.at-index in
    let ks = c.as_slice-at-items.result.now in
    let same : ks ≡ outs_of c.args.script.now = c.as_slice-at-items.ensures.value ∙ c.requires.sharing.outputs in
    let lt : i < length ks = c.loop-at-test.true in
    outs_there c.args.script.now i _ (subst (λ (xs : List ℕ). i < length xs) same lt) (same_item ks (outs_of c.args.script.now) i same lt)

pub output_at-requires-clause-output : goal.output_at-requires-clause-output
output_at-requires-clause-output c =
    let i = c.loop-at.at-index in
    let ks = c.as_slice-at-items.result.now in
    let same : ks ≡ outs_of c.args.script.now = c.as_slice-at-items.ensures.value ∙ c.requires.sharing.outputs in
    let lt : i < length ks = c.loop-at-test.true in
    outs_output c.args.script.now i _ (subst (λ (xs : List ℕ). i < length xs) same lt) (same_item ks (outs_of c.args.script.now) i same lt)

pub output_at-requires-clause-room : goal.output_at-requires-clause-room
output_at-requires-clause-room c =
    let i = c.loop-at.at-index in
    let ks = c.as_slice-at-items.result.now in
    let of = c.args.sharing.now.outputs.items in
    let same : ks ≡ of = c.as_slice-at-items.ensures.value in
    let lt : i < length ks = c.loop-at-test.true in
    trees_room c.args.script.now (place_in c.args.sharing.now.kept.items) of i (get_or ks i 0) c.args.scans.now.items c.loop-at.scans.items (map (λ o. tree_of o.tree) c.loop-at.outputs)
    (subst (λ (xs : List ℕ). i < length xs) same lt) (same_item ks of i same lt) c.loop-at.invariant.trees c.requires.room

pub loop-at-preserved : goal.loop-at-preserved
loop-at-preserved c =
    let script = c.args.script.now in
    let i = c.loop-at.at-index in
    let ks = c.as_slice-at-items.result.now in
    let of = c.args.sharing.now.outputs.items in
    let same : ks ≡ of = c.as_slice-at-items.ensures.value in
    let lt : i < length ks = c.loop-at-test.true in
    let within : i < length of = subst (λ (xs : List ℕ). i < length xs) same lt in
    let k = get_or ks i 0 in
    let is : k ≡ get_or of i k = same_item ks of i same lt in
    let name = place_in c.args.sharing.now.kept.items in
    let before = c.args.scans.now.items in
    let after = c.output_at.new.scans.items in
    let tree = λ (o : Output). tree_of o.tree in
    let o = c.in_ok-output_at.field-0 in
    let pushed = c.in_ok-push.ensures.ok in
    record {
      trees =
          subst (AreTreesMade script name (take (i + 1) of) before after) (sym (ap (map tree) pushed ∙ map-append tree c.loop-at.outputs (o ∷ [])))
          (trees_more script c.requires.standing.placed name of i k before c.loop-at.scans.items after (map tree c.loop-at.outputs) (tree_of o.tree) within is c.loop-at.invariant.trees c.in_ok-output_at.ensures.made);
      says = subst (AreOutputs script (take (i + 1) of)) (sym pushed) (outputs_more script of i k c.loop-at.outputs o within is c.loop-at.invariant.says c.in_ok-output_at.ensures.says);
    }
