pub mod Cames
mod ChosenObjects
mod Early
mod Members
mod NeededUnits
mod ReleasedUnits
mod ReusedObjects
pub mod RunsEach
pub mod RunsEnded
pub mod RunsEntries
pub mod RunsFormed
pub mod RunsGo
pub mod RunsOrdered
pub mod RunsPaths
pub mod RunsProbed
pub mod RunsPublished
pub mod RunsReady
pub mod RunsScripts
pub mod RunsSeen
pub mod RunsUnits
pub mod RunsWell
pub mod RunsWords
pub mod SlotLaws
mod UnitNumbers
mod Waiting
