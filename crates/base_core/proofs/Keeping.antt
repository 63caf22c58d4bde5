-- What a core keeps after one more step.
pub mod Beginning
pub mod Freshly
pub mod Idle
pub mod PreservedBuilds
pub mod PreservedReplies
pub mod PreservedSteps
pub mod LaneCounts
pub mod LaneSets
pub mod LaneSlots
pub mod Phases
pub mod Reserving
pub mod Rooms
pub mod SlotLists
pub mod Staying
pub mod Waiting
