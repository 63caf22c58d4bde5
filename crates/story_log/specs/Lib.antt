pub mod Bases
pub mod Logging
pub mod Stopping
pub mod Stored
pub mod Story
