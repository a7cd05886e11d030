use Rattle.scope_syntax.proofs.ScriptLaws.{fault_one, script_apart, script_one, statement_one}
use Rattle.scope_syntax.proofs.laws.spelling_law.Goals as goal

pub returns : goal.returns
returns c = record { statement = statement_one; script = script_one; fault = fault_one; apart = script_apart }
