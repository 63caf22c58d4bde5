-- What holds of stories as they grow.
pub mod Growing
pub mod Naming
mod WorkedTelling
