-- The story: how its steps are told, and what they name.
pub mod Handed
pub mod Formed
pub mod Telling
