pub mod EndLemmas
pub mod DagLemmas
