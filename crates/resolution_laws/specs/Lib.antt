pub mod Causeless
pub mod Laws
pub mod LimitLaws
pub mod PlaceLaws
