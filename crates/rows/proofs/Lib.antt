pub mod Passed
pub mod Agreeing
pub mod Base
pub mod Keys
pub mod GrowKeeps
pub mod Alike
pub mod HintKeeps
pub mod Accepting
