-- Builds: what comes next for a unit, and what is kept after each step.
pub mod BrokenBuilds
pub mod BuildBegins
pub mod BuilderCalls
pub mod Closing
pub mod EndSteps
pub mod FoundBuilds
pub mod Goings
pub mod Noting
pub mod ObjectSteps
pub mod OpenSteps
pub mod PlanSteps
pub mod StepsSo
pub mod UnitCalls
pub mod UnitNotes
pub mod UnitRows
