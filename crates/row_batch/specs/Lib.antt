pub mod Pieces
pub mod Codes
pub mod Rows
