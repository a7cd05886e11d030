-- The lemmas that the exits of the operators' calls need.
use Rattle.scope_shipped.specs.Lawful.{top_queries-fit, split_words-fit, multi_set_difference-fit, inner_pairs-fit, text_extractor-fit, log_extractor-fit}

pub ruleset fit_rules = (top_queries-fit, split_words-fit, multi_set_difference-fit, inner_pairs-fit, text_extractor-fit, log_extractor-fit)
