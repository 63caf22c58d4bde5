-- How a session is run, or why it is not: what the functions of this crate say of one another.
pub mod Checks
pub mod Forms
pub mod Outcomes
pub mod Phases
pub mod Runs
pub mod Since
pub mod Unstarted
