pub mod Codes
pub mod Converts
pub mod Laws
