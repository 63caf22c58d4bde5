-- The disk of a session: between which two ends each failed call lies, and what a stop finds.
pub mod Accounted
pub mod Blamed
pub mod Stopped
