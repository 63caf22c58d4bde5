pub mod Adding
pub mod Finding
pub mod Framing
pub mod Journals
pub mod Leaving
pub mod Looking
pub mod Passing
pub mod Phasing
pub mod Pieces
pub mod Settling
pub mod Staying
pub mod Telling
mod WorkedForeign
mod WorkedFrames
mod WorkedPieces
