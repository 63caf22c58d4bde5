-- How a base is opened.
pub mod Damages
pub mod OpenedBases
pub mod ReadFrames
pub mod ReadRows
pub mod Unfit
pub mod WorkedDamages
