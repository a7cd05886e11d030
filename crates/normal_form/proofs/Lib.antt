mod DagLemmas
mod EachLemmas
mod NodeLemmas
mod SinkLemmas
