pub mod Linked
pub mod Represent
pub mod Sound
pub mod Whole
