pub mod Made
pub mod Over
pub mod Rises
pub mod Steps
