pub mod Builds
pub mod Decisions
pub mod Outputs
pub mod Queries
pub mod Reuse
pub mod Stories
pub mod Worked
