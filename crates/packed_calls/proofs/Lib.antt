mod Writable
pub mod Keeping
mod Places
pub mod Conversion
