-- The log: a story with what it names, and what each step adds to it.
pub mod Appending
pub mod Leaving
pub mod Logs
