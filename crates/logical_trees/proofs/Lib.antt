pub mod AggColumnLemmas
pub mod BlockReading
pub mod NodeNumbers
