pub mod Keeps
pub mod Prefixes
mod Rows
mod Totals
mod Views
