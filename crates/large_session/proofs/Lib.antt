pub mod Files
pub mod Joins
pub mod Lengths
pub mod Totals
mod WorkedDraws
mod WorkedSessions
mod WorkedSummaries
mod WorkedTexts
