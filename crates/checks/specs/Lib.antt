pub mod Tree
pub mod Facts
pub mod Cells
pub mod Windows
pub mod Accepts
