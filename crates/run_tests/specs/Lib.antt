pub mod FirstIsNull
pub mod FirstIsNullFits
pub mod Marking
pub mod MarkingFits
pub mod NoRows
