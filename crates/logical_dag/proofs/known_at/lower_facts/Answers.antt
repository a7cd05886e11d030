-- Only a Group and a Top over one child have a first step.
use Rattle.std.proofs.Common.{subst, ap, ◌∙◌, arith}
use Rattle.logical_trees.specs.declared.logical.Logical.{out-Logical}
use Rattle.logical_trees.specs.declared.logic_op.LogicOp.TheVariants.{Partial}
use Rattle.logical_dag.specs.declared.place.PlacePart.TheVariants.{Lower}
use Rattle.logical_trees.specs.Tree.{one, tree_of}
use Rattle.logical_trees.specs.Formed.{IsFormed}
use Rattle.logical_dag.specs.Laws.{lent_columns}
use Rattle.logical_dag.specs.Places.{IsPart}
use Rattle.logical_trees.specs.ShapeLemmas.{tree_one}
use Rattle.logical_dag.proofs.KnownTables.{node_facts}
use Rattle.logical_dag.proofs.PartFacts.{group_lower, top_lower, other_step, other_kids}
use Rattle.logical_dag.proofs.known_at.lower_facts.Goals as goal

pub returns-in-Group : goal.returns-in-Group
returns-in-Group c t part =
    let shared = c.args.shared.now in
    let kid = tree_of c.kid-item.result in
    let op = c.in-Group.is in
    let shape = tree_one c.args.node.now c.as_slice.result.now c.kid-item.result c.as_slice.ensures c.in-len1.len_at_least c.in-len1.len_below c.kid-item.is ∙ ap (λ o. one o kid) op in
    let formed = subst (λ e. IsFormed (lent_columns shared) e) shape c.requires.formed in
    let made = node_facts shared kid c.facts_by.result (lent_columns shared) formed.0 c.facts_by.ensures (Partial c.in-Group.args) c.keyed.result formed.1 c.keyed.ensures in
    group_lower shared c.in-Group.args kid t c.keyed.result made (subst (λ e. IsPart Lower e t) shape part)

pub returns-in-Top : goal.returns-in-Top
returns-in-Top c t part =
    let kid = tree_of c.kid-item.result in
    let shape = tree_one c.args.node.now c.as_slice.result.now c.kid-item.result c.as_slice.ensures c.in-len1.len_at_least c.in-len1.len_below c.kid-item.is ∙ ap (λ o. one o kid) c.in-Top.is in
    let formed = subst (λ e. IsFormed (lent_columns c.args.shared.now) e) shape c.requires.formed in
    top_lower (lent_columns c.args.shared.now) c.args.shared.now c.in-Top.field-0 kid t c.facts_by-in-Top.result formed c.facts_by-in-Top.ensures (subst (λ e. IsPart Lower e t) shape part)

pub returns-in_default-op : goal.returns-in_default-op
returns-in_default-op c t part =
    let kid = tree_of c.kid-item.result in
    let shape = tree_one c.args.node.now c.as_slice.result.now c.kid-item.result c.as_slice.ensures c.in-len1.len_at_least c.in-len1.len_below c.kid-item.is in
    absurd (other_step (out-Logical c.args.node.now).op kid c.in_default-op.not-Group c.in_default-op.not-Top t (subst (λ e. IsPart Lower e t) shape part))

pub returns-in_default : goal.returns-in_default
returns-in_default c t part = absurd (other_kids c.args.node.now c.as_slice.result.now c.as_slice.ensures (λ e. omega (arith, e, c.in_default.len_at_least)) t part)
