pub mod Deciding
pub mod Dues
pub mod Outsiders
