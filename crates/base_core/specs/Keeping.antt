-- What a core keeps at every moment.
pub mod CoreInvariants
pub mod Lanes
