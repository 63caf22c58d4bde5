pub mod FirstRows
mod Found
mod VersionIds
mod Readiness
mod Steps
mod VersionsStored
