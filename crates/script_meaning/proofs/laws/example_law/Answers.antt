use Rattle.script_meaning.proofs.Showing.{rules_hold}
use Rattle.script_meaning.proofs.laws.example_law.Goals as goal

pub returns : goal.returns
returns c = rules_hold
