pub mod Sight
pub mod Operators
pub mod Inputs
pub mod Views
