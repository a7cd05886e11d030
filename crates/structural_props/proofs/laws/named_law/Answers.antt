use Rattle.structural_props.specs.HandedLemmas.{within_more, actions_more, keep_names, front_within, renamed_names, renamed_actions_within}
use Rattle.structural_props.specs.Named.{scheme_columns}
use Rattle.structural_props.proofs.laws.named_law.Goals as goal

pub returns-clause-more : goal.returns-clause-more
returns-clause-more c = λ cols made more d h. record {
  scheme = within_more (scheme_columns d.scheme) cols made more h.scheme;
  local = actions_more cols made more d.local h.local;
}

pub returns-clause-kept : goal.returns-clause-kept
returns-clause-kept c = λ n cols keys d h. record {
  scheme = keep_names n keys d.scheme;
  local = front_within cols keys d.local h.local;
}

pub returns-clause-renamed : goal.returns-clause-renamed
returns-clause-renamed c = λ n name cols made image d h. record {
  scheme = renamed_names n name made image d.scheme;
  local = renamed_actions_within name cols made image d.local h.local;
}
