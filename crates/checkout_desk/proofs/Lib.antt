pub mod DueRows
pub mod FirstRefusals
pub mod RuleBranches
pub mod Outsiders
pub mod RecordedLabels
pub mod MatchedChanges
