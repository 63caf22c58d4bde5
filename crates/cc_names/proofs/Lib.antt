pub mod ByRows
pub mod Common
mod DigitValues
mod FirstFaults
mod FormedRows
mod Joins
pub mod LinesAndWords
pub mod NamesOfPaths
pub mod PathParts
mod PathRows
pub mod Splits
mod WorkedCounts
mod WorkedLabels
mod WorkedNumbers
mod WorkedVersions
