pub mod Children
pub mod Laws
pub mod OptionSteps
pub mod Parts
pub mod Reading
pub mod Steps
pub mod Verdicts
