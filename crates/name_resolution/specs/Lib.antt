pub mod Queries
pub mod Resolved
