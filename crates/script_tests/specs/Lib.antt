pub mod OneField
pub mod OneFieldFits
