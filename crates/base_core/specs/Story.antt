-- The story: what it says of the disk's counts, how contracts see it with its disk, and what is replied.
pub mod Counted
pub mod Replying
pub mod Shown
