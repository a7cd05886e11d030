pub mod FitRules
pub mod PairLemmas
pub mod WidthLemmas
