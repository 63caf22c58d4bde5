pub mod GivenPaths
pub mod HeldListed
pub mod HoldersFound
pub mod Refused
pub mod ListedNames
pub mod Behind
