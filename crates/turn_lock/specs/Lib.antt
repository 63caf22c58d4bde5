pub mod Moves
pub mod Rule
pub mod PassState
pub mod Stages
