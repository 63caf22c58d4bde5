-- Builds: what their units see, may reuse and come to, from nothing and in a story.
pub mod Active
pub mod Choices
pub mod Consistency
pub mod Fresh
pub mod Freshness
pub mod Replied
pub mod Reuse
pub mod Serials
pub mod Turns
pub mod UnitTurns
pub mod Values
