pub mod Awaits
pub mod Written
