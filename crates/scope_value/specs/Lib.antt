pub mod Bags
pub mod Fits
pub mod Keys
pub mod Laws
pub mod Lent
pub mod Order
pub mod Sorted
