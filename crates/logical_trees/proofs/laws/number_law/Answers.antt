use Rattle.logical_trees.specs.NumberLemmas.{fits_number, has_children}
use Rattle.logical_trees.proofs.laws.number_law.Goals as goal

pub returns-clause-fits : goal.returns-clause-fits
returns-clause-fits c = fits_number

pub returns-clause-children : goal.returns-clause-children
returns-clause-children c = has_children
