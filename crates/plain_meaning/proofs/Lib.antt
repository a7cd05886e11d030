pub mod DistinctLemmas
pub mod GroupingLemmas
pub mod PlainLemmas
pub mod SumLemmas
