use Rattle.std.proofs.Common.{◌≡◌, ℕ, List, length, subst, sym, rules, Option}
use Rattle.logical_dag.specs.Facts.{key_name}
use Rattle.logical_dag.specs.Known.{IsNaming, AreRenamed}
use Rattle.logical_dag.proofs.KnownSteps.{names_are, key_naming, key_low}
use Rattle.logical_dag.proofs.known.keyed.Goals as goal

pub renamed-requires : goal.renamed-requires
renamed-requires c =
    let places : length c.key_names-names.result.of ≡ 128 = search rules in
    subst (λ (name : ℕ → Option ℕ). IsNaming name)
    (sym (names_are c.key_names-names.result (key_name c.args.args.now.keys) places c.key_names-names.ensures (key_low c.args.args.now.keys c.requires.key_set)))
    (key_naming c.args.args.now.keys c.requires.key_set)

pub returns : goal.returns
returns c =
    let places : length c.key_names-names.result.of ≡ 128 = search rules in
    subst (λ (cols : List ℕ). AreRenamed c.args.below.now (key_name c.args.args.now.keys) cols c.renamed.result) c.group_columns.ensures
    (subst (λ (name : ℕ → Option ℕ). AreRenamed c.args.below.now name c.group_columns.result c.renamed.result)
    (names_are c.key_names-names.result (key_name c.args.args.now.keys) places c.key_names-names.ensures (key_low c.args.args.now.keys c.requires.key_set))
    c.renamed.ensures)
