-- Rows as frames spell them, and the bases that the files of a disk represent.
pub mod Alike
pub mod Bases
pub mod Damaged
pub mod Fitting
pub mod Holding
pub mod Keeping
pub mod OpenedRows
pub mod Represented
pub mod WithoutExtents
mod WorkedStored
