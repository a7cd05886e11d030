pub mod KeptThere
pub mod PartsThere
pub mod NamedThere
pub mod Counts
pub mod OuterCalls
pub mod Whole
