pub mod AtExtents
pub mod Distinct
pub mod Exact
pub mod ExactDeeds
pub mod ExactFields
pub mod ExactLists
pub mod ExactRow
pub mod Joins
pub mod Members
pub mod Steps
mod WorkedExtents
mod WorkedPlaces
mod WorkedRows
