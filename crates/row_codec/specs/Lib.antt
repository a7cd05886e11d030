pub mod Fields
pub mod Fitting
pub mod Numbers
pub mod OnTexts
pub mod Records
pub mod Rows
pub mod Texts
