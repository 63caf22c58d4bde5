mod Begun
mod Driving
mod Joins
mod Laning
mod Later
pub mod Nexts
mod Outcomes
mod Rereads
mod Steps
