-- The facts of a node are those below it under their names, and those that the node makes.
use Rattle.std.proofs.Common.{List, refl, subst}
use Rattle.scope_expr.specs.declared.expr.Expr.{Expr}
use Rattle.fd_closure.specs.declared.facts.Facts.{Facts}
use Rattle.logical_trees.specs.declared.logic_op.LogicOp.{LogicOp}
use Rattle.logical_trees.specs.declared.logic_op.LogicOp.TheVariants.{Filter, Project, Partial, Process, Reduce}
use Rattle.logical_trees.specs.Formed.{IsFormed, IsOneFormed}
use Rattle.logical_trees.specs.Tree.{Expression, one, columns_of}
use Rattle.logical_dag.specs.Facts.{AreFactsOf}
use Rattle.logical_dag.specs.Laws.{lent_columns}
use Rattle.logical_dag.specs.Known.{AreAbove, AreFactsAbove}
use Rattle.logical_dag.proofs.KnownSteps.{filtered_all, blank_named}
use Rattle.logical_dag.proofs.KnownTables.{facts_above, filter_low, kept_above}
use Rattle.logical_dag.proofs.known.facts_above.Goals as goal

pub returns-in-Filter : goal.returns-in-Filter
returns-in-Filter c = λ shared t formed facts.
    let over = subst (λ (op : LogicOp). IsOneFormed (columns_of t) op) c.in-Filter.is formed.1 in
    let own = c.requires.own in
    facts_above c.args.op.now (Filter c.in-Filter.e) c.args.facts.now c.with_conjuncts.new.facts c.in-Filter.is
    (filtered_all c.in-Filter.e c.args.facts.now c.with_conjuncts.new.facts own c.with_conjuncts.ensures.rest c.with_conjuncts.ensures.constants
    (c.with_conjuncts.ensures.classes own (filter_low (lent_columns shared) t c.in-Filter.e formed.0 over)))
    shared t formed facts

pub returns-in-Project : goal.returns-in-Project
returns-in-Project c =
    facts_above c.args.op.now (Project c.in-Project.items c.in-Project.cols) c.args.facts.now c.projected.result c.in-Project.is
    (subst (λ (items : List Expr). AreAbove (Project items c.in-Project.cols) c.args.facts.now c.projected.result) c.as_slice.ensures c.projected.ensures)

pub returns-in-Group : goal.returns-in-Group
returns-in-Group c = facts_above c.args.op.now _ c.args.facts.now c.grouped.result c.in-Group.is c.grouped.ensures

pub returns-in-Finish : goal.returns-in-Finish
returns-in-Finish c = facts_above c.args.op.now _ c.args.facts.now c.grouped-in-Finish.result c.in-Finish.is (record {
  columns = c.grouped-in-Finish.ensures.columns;
  constants = c.grouped-in-Finish.ensures.constants;
  dependencies = c.grouped-in-Finish.ensures.dependencies;
  classes = c.grouped-in-Finish.ensures.classes;
})

pub returns-in-Partial : goal.returns-in-Partial
returns-in-Partial c = facts_above c.args.op.now (Partial c.in-Partial.args) c.args.facts.now c.keyed.result c.in-Partial.is c.keyed.ensures

pub returns-in-Process : goal.returns-in-Process
returns-in-Process c =
    facts_above c.args.op.now (Process c.in-Process.call) c.args.facts.now c.of_columns.result c.in-Process.is
    (blank_named c.args.facts.now _ _ c.of_columns.result c.of_columns.ensures.columns (λ b d e. absurd (cc)) c.of_columns.ensures.constants c.of_columns.ensures.determined c.of_columns.ensures.equal)

pub returns-in-Reduce : goal.returns-in-Reduce
returns-in-Reduce c =
    facts_above c.args.op.now (Reduce c.in-Reduce.call c.in-Reduce.on c.in-Reduce.presort) c.args.facts.now c.of_columns-in-Reduce.result c.in-Reduce.is
    (blank_named c.args.facts.now _ _ c.of_columns-in-Reduce.result c.of_columns-in-Reduce.ensures.columns (λ b d e. absurd (cc)) c.of_columns-in-Reduce.ensures.constants c.of_columns-in-Reduce.ensures.determined
    c.of_columns-in-Reduce.ensures.equal)

pub returns-in_default : goal.returns-in_default
returns-in_default c = λ shared t formed facts.
    facts_above c.args.op.now c.args.op.now c.args.facts.now c.args.facts.now refl
    (kept_above c.args.op.now c.args.facts.now c.in_default.not-Filter c.in_default.not-Project c.in_default.not-Group c.in_default.not-Finish c.in_default.not-Partial c.in_default.not-Process c.in_default.not-Reduce c.requires.own)
    shared t formed facts
