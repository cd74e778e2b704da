pub mod Walks
mod Gathering
pub mod Subtrees
pub mod Places
