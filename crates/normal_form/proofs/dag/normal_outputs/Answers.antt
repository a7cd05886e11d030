use Rattle.std.proofs.Common.{◌≡◌, List, [], sym, subst, rules}
use Rattle.std.proofs.lemmas.List.{append-nil}
use Rattle.logical_dag.specs.declared.dag.Output.{Output}
use Rattle.normal_form.specs.Kept.{AreOutputsOf}
use Rattle.normal_form.proofs.dag.normal_outputs.Goals as goal

pub returns : goal.returns
returns c =
    let none : c.loop-alloc.outputs ≡ [] = search rules in
    subst (AreOutputsOf c.args.outputs) (append-nil c.loop-alloc.done) (c.loop-alloc.invariant [] (subst (λ (os : List Output). AreOutputsOf os []) (sym none) tt))
