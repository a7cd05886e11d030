use Rattle.std.proofs.Common.{◌≡◌, ℕ, length, subst, sym, rules, Option}
use Rattle.logical_dag.specs.Facts.{key_name}
use Rattle.logical_dag.specs.Known.{IsNaming, AreClasses, CarriedEqualities}
use Rattle.logical_dag.proofs.KnownSteps.{names_are, key_naming, key_low, joined_all}
use Rattle.logical_dag.proofs.known.joined.Goals as goal

pub with_equalities-requires-clause-naming : goal.with_equalities-requires-clause-naming
with_equalities-requires-clause-naming c =
    let places : length c.key_names-names.result.of ≡ 128 = search rules in
    subst (λ (name : ℕ → Option ℕ). IsNaming name)
    (sym (names_are c.key_names-names.result (key_name c.args.right.now.columns) places c.key_names-names.ensures (key_low c.args.right.now.columns c.is_ascending.ensures)))
    (key_naming c.args.right.now.columns c.is_ascending.ensures)

pub returns : goal.returns
returns c =
    let places : length c.key_names-names.result.of ≡ 128 = search rules in
    joined_all c.args.on.now c.args.left c.args.right.now c.with_same_dependencies-depends.result c.with_equalities.result c.with_pairs.result c.union.result c.union-2.result c.union.ensures c.union-2.ensures
    c.with_same_dependencies-depends.ensures.rest c.with_equalities.ensures.rest c.with_pairs.ensures.rest c.with_same_dependencies-depends.ensures.dependencies
    (subst (λ (name : ℕ → Option ℕ). AreClasses c.with_equalities.result (CarriedEqualities c.args.right.now name c.with_same_dependencies-depends.result))
    (names_are c.key_names-names.result (key_name c.args.right.now.columns) places c.key_names-names.ensures (key_low c.args.right.now.columns c.is_ascending.ensures))
    c.with_equalities.ensures.classes)
    c.with_pairs.ensures.classes
