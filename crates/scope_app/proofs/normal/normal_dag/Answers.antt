use Rattle.std.proofs.lemmas.Result.{IfOk-weaker}
use Rattle.logical_dag.specs.Scripts.{IsBindable}
use Rattle.normal_form.specs.Kept.{IsNormalOf, GivesSame}
use Rattle.scope_app.proofs.DagLemmas.{runs_as, is_ready, both}
use Rattle.scope_app.proofs.normal.normal_dag.Goals as goal

pub returns-clause-runs : goal.returns-clause-runs
returns-clause-runs c =
    IfOk-weaker c.normalise.result _ _ (λ normal h ops d shows. runs_as ops c.args.dag normal h.0 h.1 d shows)
    (both (IsNormalOf c.args.dag) (GivesSame c.args.dag) c.normalise.result c.normalise.ensures.trees c.normalise.ensures.means)

pub returns-clause-ready : goal.returns-clause-ready
returns-clause-ready c =
    IfOk-weaker c.normalise.result _ _ (λ normal h ops ready. is_ready c.there_law.ensures.normal ops c.args.dag normal h.0 h.1 ready)
    (both (IsNormalOf c.args.dag) IsBindable c.normalise.result c.normalise.ensures.trees c.normalise.ensures.bindable)
