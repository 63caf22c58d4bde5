-- Rows as frames spell them, apart from the rows of the base, and which bases the files of a disk represent.
pub mod Damaged
pub mod Fitting
pub mod Founds
pub mod Kept
pub mod Laws
pub mod Opened
pub mod Payloads
pub mod Stops
pub mod Taken
pub mod WithoutExtents
