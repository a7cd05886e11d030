pub mod PieceLemmas
pub mod CodeLemmas
pub mod RowLemmas
pub mod CompareLemmas
