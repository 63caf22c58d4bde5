pub mod Branches
pub mod Forest
pub mod Laws
pub mod TreeFields
