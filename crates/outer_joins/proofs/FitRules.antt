-- The lemma that the exits of the combiners' calls need.
use Rattle.outer_joins.specs.Lawful.{outer_told-fit}

pub ruleset fit_rules = (outer_told-fit)
