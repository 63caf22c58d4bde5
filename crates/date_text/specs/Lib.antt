pub mod Civil
pub mod Dates
