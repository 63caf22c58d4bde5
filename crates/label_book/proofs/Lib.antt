mod Added
mod Entries
mod Found
mod ListedLabels
mod StoredMoves
mod Newest
mod StandingLabels
pub mod Pairs
mod Ready
mod WorkedStandings
