-- The facts on both sides are those that stand at the numbers.
use Rattle.std.proofs.Common.{◌≡◌, List, refl, rules, subst, slice_get}
use Rattle.std.specs.Prelude.{IsSomeAnd}
use Rattle.logical_dag.specs.declared.known_nodes.NodeFacts.{NodeFacts}
use Rattle.logical_dag.specs.Known.{AreFactsOver}
use Rattle.logical_dag.proofs.KnownNodes.{at_both}
use Rattle.logical_dag.proofs.known_nodes.put_over.Goals as goal

pub returns : goal.returns
returns c = (
  record { facts = c.facts_over.new.facts; left = c.args.left },
  search rules,
  refl,
  at_both (λ k. k.facts) (slice_get c.args.known.now.items c.args.left) (slice_get c.args.known.now.items c.args.right) c.facts_of_node-facts.result c.facts_of_node-beside.result
      (λ f g. AreFactsOver c.args.op.now f g c.facts_over.new.facts) (subst (λ (ks : List NodeFacts). IsSomeAnd (slice_get ks c.args.left) (λ k. c.facts_of_node-facts.result ≡ k.facts)) c.deref.ensures.value c.facts_of_node-facts.ensures)
      (subst (λ (ks : List NodeFacts). IsSomeAnd (slice_get ks c.args.right) (λ k. c.facts_of_node-beside.result ≡ k.facts)) c.deref-2.ensures.value c.facts_of_node-beside.ensures) c.facts_over.ensures,
)
