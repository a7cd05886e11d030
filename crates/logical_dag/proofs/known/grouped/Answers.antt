use Rattle.std.proofs.Common.{◌≡◌, ◌∙◌, ◌⊎◌, ◌<◌, List, false, true, subst, sym}
use Rattle.std.specs.Prelude.{All, Any}
use Rattle.col_sets.specs.Sets.{has, count}
use Rattle.logical_trees.specs.declared.agg.Agg.{Agg}
use Rattle.logical_dag.specs.Known.{AreConstants, AreDependencies, IsDependency}
use Rattle.logical_dag.proofs.KnownSteps.{key_free, grouped_none, grouped_some}
use Rattle.logical_dag.proofs.known.grouped.Goals as goal

pub returns-then-count-eq0 : goal.returns-then-count-eq0
returns-then-count-eq0 c =
    let none : count c.args.args.now.keys ≡ 0 = sym c.count.ensures.value ∙ c.if-count-eq0.true in
    grouped_none c.args.args.now c.args.below.now c.keyed-key.result c.with_constant_aggregates.result c.requires c.keyed-key.ensures none c.with_constant_aggregates.ensures.rest
    (subst (λ (aggs : List Agg). AreConstants c.with_constant_aggregates.result (λ d. (has c.keyed-key.result.constants d ≡ true) ⊎ Any (λ a. a.id ≡ d) aggs)) c.as_slice.ensures c.with_constant_aggregates.ensures.constants)

pub returns-else-count-eq0 : goal.returns-else-count-eq0
returns-else-count-eq0 c =
    grouped_some c.args.args.now c.args.below.now c.keyed-key.result c.with_keyed_aggregates.result c.requires c.keyed-key.ensures (λ e. c.if-count-eq0.false (c.count.ensures.value ∙ e)) c.with_keyed_aggregates.ensures.rest
    (subst (λ (aggs : List Agg). AreDependencies c.with_keyed_aggregates.result (λ s d. IsDependency c.keyed-key.result s d ⊎ ((s ≡ c.args.args.now.keys) × Any (λ a. a.id ≡ d) aggs))) c.as_slice-else-count-eq0.ensures
    c.with_keyed_aggregates.ensures.dependencies)

pub with_keyed_aggregates-requires-clause-below : goal.with_keyed_aggregates-requires-clause-below
with_keyed_aggregates-requires-clause-below c = subst (λ (aggs : List Agg). All (λ a. a.id < 128) aggs) (sym c.as_slice-else-count-eq0.ensures) c.requires.below

pub with_keyed_aggregates-requires-clause-free : goal.with_keyed_aggregates-requires-clause-free
with_keyed_aggregates-requires-clause-free c =
    subst (λ (aggs : List Agg). All (λ a. has c.keyed-key.result.determined a.id ≡ false) aggs) (sym c.as_slice-else-count-eq0.ensures) (key_free c.args.args.now c.args.below.now c.keyed-key.result c.requires c.keyed-key.ensures)
