-- The promises, from what a run left, or a session that was not started, and by the laws of legal histories.
pub mod Checked
pub mod HandedOn
pub mod Headline
pub mod Objects
pub mod Reused
