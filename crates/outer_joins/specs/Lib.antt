pub mod Combiners
pub mod Laws
pub mod Lawful
pub mod OuterPairs
pub mod Widths
