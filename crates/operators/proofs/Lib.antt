mod Declarable
pub mod Lists
mod Showing
