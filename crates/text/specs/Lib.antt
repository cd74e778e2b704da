pub mod Problems
pub mod Hex
pub mod Letters
