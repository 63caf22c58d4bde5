pub mod Builds
pub mod Commands
pub mod Laws
pub mod Queries
pub mod Stories
pub mod Worked
