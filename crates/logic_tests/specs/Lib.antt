pub mod Calling
pub mod Showing
pub mod ShowingFits
pub mod Tall
pub mod Worked
