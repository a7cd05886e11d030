use Rattle.source_laws.proofs.Over.{is_over}
use Rattle.source_laws.proofs.Names.{names_sources}
use Rattle.source_laws.proofs.laws.over_law.Goals as goal

pub returns-clause-over : goal.returns-clause-over
returns-clause-over c = is_over

pub returns-clause-names : goal.returns-clause-names
returns-clause-names c = names_sources
