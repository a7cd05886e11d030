use Rattle.structural_props.specs.HandedLemmas.{scheme_kept, scheme_keep, scheme_renamed}
use Rattle.structural_props.proofs.laws.handed_law.Goals as goal

pub returns-clause-kept : goal.returns-clause-kept
returns-clause-kept c = λ cols made bucket n s dealt parts news e from h. scheme_kept cols made bucket n s dealt parts news e from h

pub returns-clause-narrowed : goal.returns-clause-narrowed
returns-clause-narrowed c = λ cols made bucket n keys s dealt parts news e from h. scheme_keep cols made bucket n keys s dealt parts news e from h

pub returns-clause-renamed : goal.returns-clause-renamed
returns-clause-renamed c = λ cols made bucket n name s dealt parts news e from h. scheme_renamed cols made bucket n name s dealt parts news e from h
