-- What a log shows and keeps after each step.
pub mod Appended
pub mod Logged
pub mod Logging
pub mod Rising
mod WorkedLeaving
mod WorkedSettling
