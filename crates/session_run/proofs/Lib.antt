pub mod Calls
pub mod Faults
pub mod Promises
pub mod Running
pub mod Story
