-- What holds of stories as they grow.
pub mod CountRows
pub mod Counts
pub mod Growing
pub mod WorkedReplies
