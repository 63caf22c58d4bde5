-- The session that a call gives, and which status comes of which cause.
pub mod Exactly
pub mod Ready
pub mod Resting
pub mod UnstartedStatuses
mod WorkedCauses
mod WorkedStatuses
