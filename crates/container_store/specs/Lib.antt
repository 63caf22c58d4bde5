pub mod Extents
pub mod Getting
pub mod Placed
pub mod Places
pub mod Spaces
pub mod StoreFields
pub mod Walks
