use Rattle.std.proofs.Common.{◌≡◌, ◌∙◌, subst, Result, IfOk}
use Rattle.std.proofs.lemmas.Result.{IfOk-weaker}
use Rattle.logical_trees.specs.declared.logical.Logical.{Logical}
use Rattle.logical_trees.specs.Tree.{tree_of}
use Rattle.normal_meaning.specs.Sinking.{conjuncts, sink, sink_all}
use Rattle.normal_form.proofs.SinkLemmas.{sunk_other, sunk_pair, both_sunk}
use Rattle.normal_form.proofs.sinking.+sink_all.Goals as goal

pub returns-in_ok-b-in-And : goal.returns-in_ok-b-in-And
returns-in_ok-b-in-And t c =
    let whole = tree_of c.args.tree in
    let first : tree_of c.in_ok-b-in-And.tree ≡ sink_all whole (conjuncts c.into_inner.result)
    = subst (λ (r : Result Logical _). IfOk r (λ u. tree_of u ≡ sink_all whole (conjuncts c.into_inner.result))) c.in_ok-b-in-And.ensures.1 c.sink_all.ensures in
    IfOk-weaker c.sink_all-in-And.result (λ u. tree_of u ≡ sink_all (tree_of c.in_ok-b-in-And.tree) (conjuncts c.into_inner-in-And.result)) (λ u. tree_of u ≡ sink_all whole (conjuncts c.args.e))
    (λ u is.
    both_sunk whole (tree_of c.in_ok-b-in-And.tree) (tree_of u) c.args.e c.in-Pair.op c.in-Pair.a c.in-Pair.b c.into_inner.result c.into_inner-in-And.result
    c.in-Pair.is c.in-And.is c.into_inner.ensures (c.into_inner-in-And.ensures ∙ c.in_ok-b-in-And.ensures.0) first is)
    c.sink_all-in-And.ensures

pub returns-in_default : goal.returns-in_default
returns-in_default t c =
    let whole = tree_of c.args.tree in
    IfOk-weaker c.sink-in_default.result (λ u. tree_of u ≡ sink whole c.args.e) (λ u. tree_of u ≡ sink_all whole (conjuncts c.args.e))
    (λ u is. is ∙ sunk_other whole c.args.e c.in_default.not-Pair) c.sink-in_default.ensures
