pub mod Sink
pub mod Laws
