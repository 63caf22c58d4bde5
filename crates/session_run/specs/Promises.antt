-- What is promised of the history of a call, and of the next call.
pub mod Checked
pub mod HandedOn
pub mod Headline
pub mod Objects
pub mod Promised
pub mod Reused
