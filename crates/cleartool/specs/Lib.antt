pub mod HeldObjects
pub mod Listed
pub mod Owned
