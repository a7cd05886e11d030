mod NodeLemmas
mod TextLemmas
