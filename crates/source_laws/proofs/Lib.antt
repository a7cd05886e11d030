pub mod Over
pub mod Names
pub mod Taken
pub mod Standing
pub mod Rising
