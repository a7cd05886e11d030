pub mod Bags
pub mod Counts
pub mod Distinct
pub mod Firsts
pub mod Loops
pub mod Members
pub mod Reading
pub mod Sorting
