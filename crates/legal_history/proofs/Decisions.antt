-- What holds of what is decided of a command.
pub mod CheckoutFits
pub mod Decided
pub mod DecidedFits
pub mod DecidedIdle
pub mod DecidedSays
pub mod DirectoryFits
pub mod DueObjects
pub mod LabelFits
pub mod SaveFits
pub mod FileFits
pub mod Handed
pub mod Passed
pub mod RecordLabels
