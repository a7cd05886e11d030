pub mod Declarations
pub mod Answers
