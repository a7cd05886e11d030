pub mod Bytes
pub mod Begins
pub mod Tokens
pub mod Laws
