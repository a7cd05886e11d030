pub mod Shown
pub mod Binding
pub mod Steps
