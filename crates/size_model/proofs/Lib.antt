pub mod RecordLemmas
pub mod TableLemmas
pub mod ReadingLemmas
pub mod OneReading
