use Rattle.std.proofs.Common.{◌≡◌, ◌<◌, ◌≤◌, length, Some, subst, sym, rules, slice_get}
use Rattle.std.proofs.lemmas.Option.{slice_get_past}
use Rattle.logical_trees.specs.declared.logic_op.LogicOp.{LogicOp}
use Rattle.logical_trees.specs.Formed.{IsFormed}
use Rattle.logical_trees.specs.Tree.{leaf}
use Rattle.logical_dag.specs.Facts.{AreFactsOf}
use Rattle.logical_dag.specs.Laws.{lent_columns}
use Rattle.logical_dag.specs.Known.{IsLentSet}
use Rattle.list_lemmas.specs.Reading.{read_some}
use Rattle.logical_dag.proofs.KnownTables.{ref_facts, scan_facts, bare_facts, lent_set, lent_there, bare_set}
use Rattle.logical_dag.proofs.known.leaf_facts.Goals as goal

pub returns-in-Some-clause-value : goal.returns-in-Some-clause-value
returns-in-Some-clause-value c =
    let within : c.in-Ref.number < length c.args.shared.now = search rules in
    let at : slice_get c.args.shared.now c.in-Ref.number ≡ Some c.in-Some.lent.now = read_some c.args.shared.now c.in-Ref.number c.in-Some.lent.now within c.in-Some.ensures.lookup.1 in
    subst (λ (op : LogicOp). AreFactsOf c.args.shared.now (leaf op) c.referred.result) (sym c.in-Ref.is)
    (ref_facts c.args.shared.now c.in-Ref.number c.in-Ref.cols c.in-Some.lent.now c.referred.result at c.referred.ensures.set c.referred.ensures.value)

pub returns-in-Some-clause-set : goal.returns-in-Some-clause-set
returns-in-Some-clause-set c =
    let within : c.in-Ref.number < length c.args.shared.now = search rules in
    let at : slice_get c.args.shared.now c.in-Ref.number ≡ Some c.in-Some.lent.now = read_some c.args.shared.now c.in-Ref.number c.in-Some.lent.now within c.in-Some.ensures.lookup.1 in
    subst (λ (op : LogicOp). IsLentSet c.args.shared.now (leaf op)) (sym c.in-Ref.is) (lent_set c.args.shared.now c.in-Ref.number c.in-Ref.cols c.in-Some.lent.now at c.referred.ensures.set)

pub returns-in-None-clause-value : goal.returns-in-None-clause-value
returns-in-None-clause-value c =
    let past : length c.args.shared.now ≤ c.in-Ref.number = search rules in
    absurd (lent_there c.args.shared.now c.in-Ref.number c.in-Ref.cols (slice_get_past c.args.shared.now c.in-Ref.number past) (subst (λ (op : LogicOp). IsFormed (lent_columns c.args.shared.now) (leaf op)) c.in-Ref.is c.requires))

pub returns-in-None-clause-set : goal.returns-in-None-clause-set
returns-in-None-clause-set c =
    let past : length c.args.shared.now ≤ c.in-Ref.number = search rules in
    absurd (lent_there c.args.shared.now c.in-Ref.number c.in-Ref.cols (slice_get_past c.args.shared.now c.in-Ref.number past) (subst (λ (op : LogicOp). IsFormed (lent_columns c.args.shared.now) (leaf op)) c.in-Ref.is c.requires))

pub returns-in-Scan-clause-value : goal.returns-in-Scan-clause-value
returns-in-Scan-clause-value c =
    subst (λ (op : LogicOp). AreFactsOf c.args.shared.now (leaf op) c.of_columns-in-Scan.result) (sym c.in-Scan.is)
    (scan_facts c.args.shared.now c.in-Scan.scan c.in-Scan.cols c.of_columns-in-Scan.result c.of_columns-in-Scan.ensures.columns c.of_columns-in-Scan.ensures.constants c.of_columns-in-Scan.ensures.determined c.of_columns-in-Scan.ensures.equal)

pub returns-in_default : goal.returns-in_default
returns-in_default c = record {
  value = bare_facts c.args.shared.now c.args.op.now c.of_columns-in_default.result c.in_default.not-Scan c.in_default.not-Ref (rw c.empty.ensures at c.of_columns-in_default.ensures.columns) c.of_columns-in_default.ensures.constants
      c.of_columns-in_default.ensures.determined c.of_columns-in_default.ensures.equal;
  set = bare_set c.args.shared.now c.args.op.now c.in_default.not-Ref;
}
