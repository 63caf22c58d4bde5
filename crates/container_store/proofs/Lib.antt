pub mod Fitting
pub mod InOrder
pub mod Keeping
pub mod Placing
pub mod Taking
pub mod Walking
mod WorkedExtents
