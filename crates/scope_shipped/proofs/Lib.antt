pub mod Counts
pub mod Differences
pub mod Exits
pub mod FitRules
pub mod TextExtracts
pub mod WordSteps
