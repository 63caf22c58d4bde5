pub mod Acting
pub mod Building
pub mod Keeping
pub mod Story
