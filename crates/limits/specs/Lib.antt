pub mod Rules
pub mod Sums
pub mod Pending
pub mod Written
pub mod Calls
pub mod Memory
pub mod Laws
pub mod Worked
