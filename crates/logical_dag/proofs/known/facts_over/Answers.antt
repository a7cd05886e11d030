use Rattle.std.proofs.Common.{◌<◌, ℕ, List, subst, sym}
use Rattle.std.specs.Prelude.{All}
use Rattle.logical_trees.specs.declared.logic_op.LogicOp.{LogicOp}
use Rattle.logical_trees.specs.Formed.{IsTwoFormed}
use Rattle.logical_trees.specs.Tree.{two}
use Rattle.logical_dag.specs.Facts.{AreFactsOf}
use Rattle.logical_dag.specs.Laws.{lent_columns}
use Rattle.logical_dag.specs.Known.{AreJoined}
use Rattle.logical_dag.proofs.KnownTables.{join_facts, combine_facts, wide_facts, pairs_low}
use Rattle.logical_dag.proofs.known.facts_over.Goals as goal

pub joined-requires-clause-below : goal.joined-requires-clause-below
joined-requires-clause-below c =
    let formed = subst (λ (op : LogicOp). IsTwoFormed c.args.facts.now.columns c.args.right.now.columns op) c.in-Join.is c.requires.formed in
    subst (λ (on : List (ℕ × ℕ)). All (λ p. (p.0 < 128) × (p.1 < 128)) on) (sym c.as_slice.ensures.value)
    (pairs_low c.args.facts.now.columns c.args.right.now.columns c.in-Join.on.items c.is_ascending.ensures c.is_ascending-in-Join.ensures formed)

pub returns-in-Join : goal.returns-in-Join
returns-in-Join c = λ shared t u formed facts more.
    subst (λ (op : LogicOp). AreFactsOf shared (two op t u) c.joined.result) (sym c.in-Join.is)
    (join_facts shared (lent_columns shared) t u c.args.facts.now c.args.right.now formed.0 formed.1 facts more c.in-Join.on c.args.op.now c.in-Join.is c.joined.result
    (subst (λ (on : List (ℕ × ℕ)). AreJoined on c.args.facts.now c.args.right.now c.joined.result) c.as_slice.ensures.value c.joined.ensures))

pub returns-in-Combine : goal.returns-in-Combine
returns-in-Combine c = λ shared t u formed facts more.
    subst (λ (op : LogicOp). AreFactsOf shared (two op t u) c.of_columns.result) (sym c.in-Combine.is)
    (combine_facts shared c.in-Combine.call c.in-Combine.on c.in-Combine.left c.in-Combine.right t u c.of_columns.result c.of_columns.ensures.columns c.of_columns.ensures.constants c.of_columns.ensures.determined c.of_columns.ensures.equal)

pub returns-in_default : goal.returns-in_default
returns-in_default c = λ shared t u formed facts more.
    wide_facts shared c.args.op.now t u c.args.facts.now c.args.right.now c.of_columns-in_default.result c.in_default.not-Join c.in_default.not-Combine facts more (rw c.union.ensures at c.of_columns-in_default.ensures.columns)
    c.of_columns-in_default.ensures.constants c.of_columns-in_default.ensures.determined c.of_columns-in_default.ensures.equal
