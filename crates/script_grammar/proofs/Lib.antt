pub mod CarriedLemmas
pub mod FrameLemmas
mod Worked
