pub mod Fronts
pub mod KnownTexts
pub mod Parsed
pub mod Reading
