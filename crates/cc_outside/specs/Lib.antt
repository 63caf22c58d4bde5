pub mod Feeds
pub mod Moments
pub mod GhostStates
pub mod Reading
