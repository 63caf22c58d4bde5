pub mod HistoryRows
pub mod Refused
pub mod NumberedVersions
pub mod TreeParts
pub mod Uncovered
pub mod DifferingPaths
pub mod LabelsFound
pub mod AddedVersions
pub mod Predecessors
pub mod Leaders
pub mod ArrowTails
pub mod WalksBack
pub mod CatalogsGiven
pub mod ElementsBelow
pub mod MergeTests
mod WorkedLabels
