use Rattle.normal_meaning.proofs.Bare.{bare_normal, written_normal, bounded_normal, bindable_normal, scans_of_all}
use Rattle.normal_meaning.proofs.Sunk.{columns_normal}
use Rattle.normal_meaning.proofs.laws.nodes_law.Goals as goal

pub returns-clause-same : goal.returns-clause-same
returns-clause-same c = bare_normal

pub returns-clause-written : goal.returns-clause-written
returns-clause-written c = written_normal

pub returns-clause-bounds : goal.returns-clause-bounds
returns-clause-bounds c = bounded_normal

pub returns-clause-columns : goal.returns-clause-columns
returns-clause-columns c = columns_normal

pub returns-clause-bindable : goal.returns-clause-bindable
returns-clause-bindable c = bindable_normal

pub returns-clause-scans : goal.returns-clause-scans
returns-clause-scans c = scans_of_all
