use Rattle.scope_app.proofs.DagLemmas.{gives_meanings}
use Rattle.scope_app.proofs.laws.meanings_law.Goals as goal

pub returns : goal.returns
returns g c = gives_meanings _ c.lawful_law.ensures c.bound_law.ensures c.told_law.ensures c.one_law.ensures.alone
