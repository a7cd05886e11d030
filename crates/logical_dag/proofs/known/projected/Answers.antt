use Rattle.std.proofs.Common.{◌≡◌, ℕ, length, subst, sym, rules, Option}
use Rattle.logical_dag.specs.Facts.{item_name}
use Rattle.logical_dag.specs.Known.{IsNaming, AreRenamed}
use Rattle.logical_dag.proofs.KnownSteps.{names_are, item_naming, item_low, projected_all}
use Rattle.logical_dag.proofs.known.projected.Goals as goal

pub renamed-plain-requires : goal.renamed-plain-requires
renamed-plain-requires c =
    let places : length c.item_names-names.result.of ≡ 128 = search rules in
    subst (λ (name : ℕ → Option ℕ). IsNaming name)
    (sym (names_are c.item_names-names.result (item_name c.args.items.now c.args.cols) places c.item_names-names.ensures (item_low c.args.below.now.columns c.args.items.now c.args.cols c.is_ascending.ensures c.requires.over)))
    (item_naming c.args.items.now c.args.cols c.requires.set)

pub returns : goal.returns
returns c =
    let places : length c.item_names-names.result.of ≡ 128 = search rules in
    let plain : AreRenamed c.args.below.now (item_name c.args.items.now c.args.cols) c.args.cols c.renamed-plain.result =
    subst (λ (name : ℕ → Option ℕ). AreRenamed c.args.below.now name c.args.cols c.renamed-plain.result)
    (names_are c.item_names-names.result (item_name c.args.items.now c.args.cols) places c.item_names-names.ensures (item_low c.args.below.now.columns c.args.items.now c.args.cols c.is_ascending.ensures c.requires.over))
    c.renamed-plain.ensures
    in
    projected_all c.args.items.now c.args.cols c.args.below.now c.renamed-plain.result c.with_literals.result c.with_same_items.result c.requires.set plain c.with_literals.ensures.rest c.with_same_items.ensures.rest
    c.with_literals.ensures.constants c.with_same_items.ensures.classes
