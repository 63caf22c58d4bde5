-- What holds of the walks from version to version.
pub mod FollowersBelow
pub mod Walks
pub mod WalksFound
