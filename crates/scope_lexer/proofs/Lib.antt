pub mod Alone
pub mod Cuts
pub mod Digits
pub mod Fronts
pub mod Lengths
pub mod Readings
pub mod Strings
