-- The run of a session's phases, and of the lanes of each.
pub mod Carried
pub mod LaneSteps
pub mod LanesDone
pub mod PhaseSteps
pub mod Runs
pub mod SinceSteps
pub mod Verdicts
pub mod Within
