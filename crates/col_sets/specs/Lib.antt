pub mod Sets
pub mod Tests
pub mod Columns
pub mod Members
pub mod Inverse
pub mod Keys
pub mod Listed
