pub mod Checks
pub mod Kept
pub mod Needed
pub mod Verdicts
