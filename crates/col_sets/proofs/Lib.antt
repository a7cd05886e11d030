pub mod ColSets
pub mod KeyLemmas
