use Rattle.binding_laws.proofs.KeptThere.{keeps_there}
use Rattle.binding_laws.proofs.PartsThere.{gives_there}
use Rattle.binding_laws.proofs.laws.there_law.Goals as goal

pub returns-clause-dag : goal.returns-clause-dag
returns-clause-dag c = gives_there

pub returns-clause-normal : goal.returns-clause-normal
returns-clause-normal c = keeps_there
