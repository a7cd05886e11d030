pub mod Sources
mod Steps
