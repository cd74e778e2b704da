pub mod Details
pub mod Lines
