pub mod TurnLemmas
pub mod OutputLemmas
