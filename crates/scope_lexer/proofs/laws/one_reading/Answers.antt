use Rattle.scope_lexer.proofs.Readings.{no_two_readings, some_reading}
use Rattle.scope_lexer.proofs.laws.one_reading.Goals as goal

pub returns-clause-some : goal.returns-clause-some
returns-clause-some c = some_reading

pub returns-clause-one : goal.returns-clause-one
returns-clause-one c = no_two_readings
