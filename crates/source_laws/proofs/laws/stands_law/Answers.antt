use Rattle.source_laws.proofs.Standing.{each_stands, each_is_right}
use Rattle.source_laws.proofs.laws.stands_law.Goals as goal

pub returns-clause-stands : goal.returns-clause-stands
returns-clause-stands c = each_stands

pub returns-clause-right : goal.returns-clause-right
returns-clause-right c = each_is_right
