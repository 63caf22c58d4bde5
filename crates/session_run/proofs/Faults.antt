-- Whose fault it was, and what is left of the files.
pub mod Blaming
pub mod Files
pub mod Stopping
mod WorkedFaults
