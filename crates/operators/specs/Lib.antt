pub mod Answers
pub mod Questions
pub mod Windows
pub mod Catalogue
pub mod Declarations
pub mod Rows
pub mod Rules
pub mod Stored
