-- Commands that build nothing: what is decided of them, and what is kept after them.
pub mod Commanded
pub mod Faulting
pub mod Finishing
pub mod Fitting
pub mod NextCommands
pub mod PlainRows
