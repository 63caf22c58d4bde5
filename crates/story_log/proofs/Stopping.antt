-- What the disk keeps of a story, and what a stop may find.
pub mod Backing
pub mod FoundBases
pub mod Settled
