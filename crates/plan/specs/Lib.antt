pub mod Numbers
pub mod Cells
pub mod Kinds
pub mod Refusals
pub mod Stacks
pub mod Tables
