pub mod WholeLemmas
pub mod BagLemmas
