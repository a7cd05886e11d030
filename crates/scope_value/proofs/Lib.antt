pub mod BagLemmas
pub mod SortedLemmas
