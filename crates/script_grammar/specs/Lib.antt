pub mod Forms
pub mod Frame
pub mod Includes
pub mod Lines
pub mod Parts
pub mod Run
pub mod Standings
pub mod Words
