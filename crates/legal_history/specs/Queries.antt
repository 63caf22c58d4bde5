-- What is answered to each query.
pub mod ElementTexts
pub mod HistoryTexts
pub mod DirectoryTexts
pub mod Merges
pub mod QueryLines
pub mod RecordTexts
pub mod VersionNames
