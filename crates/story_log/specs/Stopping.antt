-- What the disk keeps of a story, and what a stop may find.
pub mod Backed
pub mod Journals
pub mod Standing
pub mod StopLaws
pub mod Tails
