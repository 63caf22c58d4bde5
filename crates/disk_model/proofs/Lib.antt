pub mod Pictures
pub mod Recording
pub mod Stops
pub mod Torn
mod Worked
mod WorkedImages
