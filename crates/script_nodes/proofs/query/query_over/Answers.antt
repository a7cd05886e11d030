use Rattle.std.proofs.lemmas.Result.{IfOk-weaker}
use Rattle.script_nodes.proofs.Sources.{query_step}
use Rattle.script_nodes.proofs.query.query_over.Goals as goal

pub returns : goal.returns
returns c =
    IfOk-weaker c.first_opt_over.result _ _
    (λ m first. query_step c.args.query.now _ _ c.args.made c.in_ok-made.made c.in_ok-made-2.made c.in_ok-made-3.made m c.in_ok-made.ensures c.in_ok-made-2.ensures c.in_ok-made-3.ensures first)
    c.first_opt_over.ensures
