pub mod Draws
pub mod LargeSession
pub mod Summaries
