-- What was made of the parts, and so of the whole.
use Rattle.std.proofs.Common.{List, ap}
use Rattle.logical_trees.specs.declared.logical.Logical.{Logical}
use Rattle.logical_dag.specs.declared.dag.ScanDecl.{ScanDecl}
use Rattle.logical_dag.specs.declared.dag.Output.{Output}
use Rattle.normal_form.proofs.DagLemmas.{AreMadeOf, parts_made, normal_of, bounded_of, all_normal, bindable_of, gives_same}
use Rattle.normal_form.proofs.dag.normalise.Goals as goal

pub dag_of-requires : goal.dag_of-requires
dag_of-requires c =
    bounded_of c.args.dag c.in_ok-scans-2.scans c.in_ok-scans-2.shared c.in_ok-scans-2.outputs
    (parts_made c.args.dag c.in_ok-scans.scans c.in_ok-scans-2.scans c.in_ok-scans.shared c.in_ok-scans-2.shared c.in_ok-scans.outputs c.in_ok-scans-2.outputs c.normal_trees.result c.normal_outputs.result
    (ap (λ (p : List ScanDecl × List Output). p.0) c.in_ok-scans.ensures.0) (ap (λ (p : List ScanDecl × List Output). p.1) c.in_ok-scans.ensures.0) c.in_ok-scans.ensures.1 c.normal_trees.ensures
    (ap (λ (p : List ScanDecl × List Logical). p.0) c.in_ok-scans-2.ensures.0) (ap (λ (p : List ScanDecl × List Logical). p.1) c.in_ok-scans-2.ensures.0) c.in_ok-scans-2.ensures.1 c.normal_outputs.ensures)

pub returns-clause-trees : goal.returns-clause-trees
returns-clause-trees c =
    let new = c.dag_of.result in
    let made : AreMadeOf c.args.dag new.scans new.shared new.outputs = rw (c.dag_of.ensures.scans, c.dag_of.ensures.shared, c.dag_of.ensures.outputs)
    (parts_made c.args.dag c.in_ok-scans.scans c.in_ok-scans-2.scans c.in_ok-scans.shared c.in_ok-scans-2.shared c.in_ok-scans.outputs c.in_ok-scans-2.outputs c.normal_trees.result c.normal_outputs.result
    (ap (λ (p : List ScanDecl × List Output). p.0) c.in_ok-scans.ensures.0) (ap (λ (p : List ScanDecl × List Output). p.1) c.in_ok-scans.ensures.0) c.in_ok-scans.ensures.1 c.normal_trees.ensures
    (ap (λ (p : List ScanDecl × List Logical). p.0) c.in_ok-scans-2.ensures.0) (ap (λ (p : List ScanDecl × List Logical). p.1) c.in_ok-scans-2.ensures.0) c.in_ok-scans-2.ensures.1 c.normal_outputs.ensures) in
    normal_of c.args.dag new made

pub returns-clause-normal : goal.returns-clause-normal
returns-clause-normal c =
    let new = c.dag_of.result in
    let made : AreMadeOf c.args.dag new.scans new.shared new.outputs = rw (c.dag_of.ensures.scans, c.dag_of.ensures.shared, c.dag_of.ensures.outputs)
    (parts_made c.args.dag c.in_ok-scans.scans c.in_ok-scans-2.scans c.in_ok-scans.shared c.in_ok-scans-2.shared c.in_ok-scans.outputs c.in_ok-scans-2.outputs c.normal_trees.result c.normal_outputs.result
    (ap (λ (p : List ScanDecl × List Output). p.0) c.in_ok-scans.ensures.0) (ap (λ (p : List ScanDecl × List Output). p.1) c.in_ok-scans.ensures.0) c.in_ok-scans.ensures.1 c.normal_trees.ensures
    (ap (λ (p : List ScanDecl × List Logical). p.0) c.in_ok-scans-2.ensures.0) (ap (λ (p : List ScanDecl × List Logical). p.1) c.in_ok-scans-2.ensures.0) c.in_ok-scans-2.ensures.1 c.normal_outputs.ensures) in
    all_normal c.args.dag new (normal_of c.args.dag new made)

pub returns-clause-means : goal.returns-clause-means
returns-clause-means c =
    let new = c.dag_of.result in
    let made : AreMadeOf c.args.dag new.scans new.shared new.outputs = rw (c.dag_of.ensures.scans, c.dag_of.ensures.shared, c.dag_of.ensures.outputs)
    (parts_made c.args.dag c.in_ok-scans.scans c.in_ok-scans-2.scans c.in_ok-scans.shared c.in_ok-scans-2.shared c.in_ok-scans.outputs c.in_ok-scans-2.outputs c.normal_trees.result c.normal_outputs.result
    (ap (λ (p : List ScanDecl × List Output). p.0) c.in_ok-scans.ensures.0) (ap (λ (p : List ScanDecl × List Output). p.1) c.in_ok-scans.ensures.0) c.in_ok-scans.ensures.1 c.normal_trees.ensures
    (ap (λ (p : List ScanDecl × List Logical). p.0) c.in_ok-scans-2.ensures.0) (ap (λ (p : List ScanDecl × List Logical). p.1) c.in_ok-scans-2.ensures.0) c.in_ok-scans-2.ensures.1 c.normal_outputs.ensures) in
    gives_same c.args.dag new (normal_of c.args.dag new made) c.requires

pub returns-clause-bindable : goal.returns-clause-bindable
returns-clause-bindable c =
    let new = c.dag_of.result in
    let made : AreMadeOf c.args.dag new.scans new.shared new.outputs = rw (c.dag_of.ensures.scans, c.dag_of.ensures.shared, c.dag_of.ensures.outputs)
    (parts_made c.args.dag c.in_ok-scans.scans c.in_ok-scans-2.scans c.in_ok-scans.shared c.in_ok-scans-2.shared c.in_ok-scans.outputs c.in_ok-scans-2.outputs c.normal_trees.result c.normal_outputs.result
    (ap (λ (p : List ScanDecl × List Output). p.0) c.in_ok-scans.ensures.0) (ap (λ (p : List ScanDecl × List Output). p.1) c.in_ok-scans.ensures.0) c.in_ok-scans.ensures.1 c.normal_trees.ensures
    (ap (λ (p : List ScanDecl × List Logical). p.0) c.in_ok-scans-2.ensures.0) (ap (λ (p : List ScanDecl × List Logical). p.1) c.in_ok-scans-2.ensures.0) c.in_ok-scans-2.ensures.1 c.normal_outputs.ensures) in
    bindable_of c.args.dag new made c.requires
