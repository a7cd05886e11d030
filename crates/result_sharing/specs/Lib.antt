pub mod Origins
pub mod Sharing
pub mod Steps
