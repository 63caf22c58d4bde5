-- What holds along legal stories.
pub mod Along
pub mod DecidedSteps
pub mod Finishing
pub mod Prefixes
pub mod Goes
pub mod GoingOn
pub mod Grows
pub mod LaterBuilds
pub mod LaterLanes
pub mod LaterSteps
pub mod LaterStories
pub mod Leaving
pub mod Rising
pub mod Room
pub mod Scrubs
pub mod ConsistentStories
pub mod Started
