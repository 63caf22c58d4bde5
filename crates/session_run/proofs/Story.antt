-- What a story says of its session, and of its replies.
pub mod FailedLanes
pub mod FromNothing
pub mod LaneLines
pub mod MoreSteps
mod Worked
mod WorkedFromNothing
