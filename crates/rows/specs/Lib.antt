pub mod Sums
pub mod Grow
pub mod Hint
pub mod Laws
