use Rattle.std.proofs.Common.{◌≡◌, ℕ, length, subst, sym, rules, Option}
use Rattle.logical_dag.specs.Facts.{ref_name}
use Rattle.logical_dag.specs.Known.{IsNaming, AreRenamed}
use Rattle.logical_dag.proofs.KnownSteps.{names_are, ref_naming, ref_low}
use Rattle.logical_dag.proofs.known.referred.Goals as goal

pub renamed-requires : goal.renamed-requires
renamed-requires c =
    let places : length c.ref_names-names.result.of ≡ 128 = search rules in
    subst (λ (name : ℕ → Option ℕ). IsNaming name)
    (sym (names_are c.ref_names-names.result (ref_name c.args.lent.now.columns c.args.cols) places c.ref_names-names.ensures (ref_low c.args.lent.now.columns c.args.cols c.is_ascending.ensures)))
    (ref_naming c.args.lent.now.columns c.args.cols c.is_ascending.ensures c.requires)

pub returns-clause-value : goal.returns-clause-value
returns-clause-value c =
    let places : length c.ref_names-names.result.of ≡ 128 = search rules in
    subst (λ (name : ℕ → Option ℕ). AreRenamed c.args.lent.now name c.args.cols c.renamed.result)
    (names_are c.ref_names-names.result (ref_name c.args.lent.now.columns c.args.cols) places c.ref_names-names.ensures (ref_low c.args.lent.now.columns c.args.cols c.is_ascending.ensures))
    c.renamed.ensures
