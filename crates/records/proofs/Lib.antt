pub mod Widths
pub mod Passes
pub mod Chunks
pub mod Undone
pub mod Rooms
