use Rattle.script_meaning.proofs.Whole.{gives_bindable}
use Rattle.script_meaning.proofs.laws.bindable_law.Goals as goal

pub returns : goal.returns
returns c = gives_bindable
