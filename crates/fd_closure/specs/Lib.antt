pub mod Known
pub mod Closure
pub mod Least
pub mod Hold
pub mod Laws
