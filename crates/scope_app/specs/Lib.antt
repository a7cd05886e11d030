pub mod Ends
pub mod Report
pub mod ScriptText
pub mod Shown
pub mod Stages
pub mod Steps
