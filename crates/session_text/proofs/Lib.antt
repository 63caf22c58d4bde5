pub mod AheadLaws
pub mod BodyLaws
pub mod BuildWords
pub mod CommandWords
pub mod Ends
pub mod FormedBuilds
pub mod FormedCommands
pub mod FormedReading
pub mod FormedWords
pub mod Right
pub mod Seen
pub mod Steps
pub mod Versions
mod Worked
