pub mod Answers
pub mod File
pub mod Memory
pub mod NoFail
pub mod State
pub mod Trouble
