use Rattle.source_laws.proofs.Rising.{each_rises}
use Rattle.source_laws.proofs.Taken.{counts_sources, each_takes}
use Rattle.source_laws.proofs.laws.takes_law.Goals as goal

pub returns-clause-counts : goal.returns-clause-counts
returns-clause-counts c = counts_sources

pub returns-clause-takes : goal.returns-clause-takes
returns-clause-takes c = each_takes

pub returns-clause-rises : goal.returns-clause-rises
returns-clause-rises c = each_rises
