pub mod Deciding
pub mod GoingOn
pub mod Plain
pub mod Rest
pub mod Steps
pub mod Trying
