pub mod Keeping
mod Runs
mod Steps
mod Turns
mod Wipes
mod Writes
