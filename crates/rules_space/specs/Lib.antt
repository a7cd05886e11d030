pub mod Laws
pub mod Memo
pub mod Place
pub mod Space
pub mod Steps
pub mod Tree
