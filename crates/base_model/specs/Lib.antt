-- A base: its rows, what they say of views, versions and texts, and which rows may come next; and what config specs say.
pub mod Blanked
pub mod Catalogs
pub mod Changes
pub mod Checkouts
pub mod Closures
pub mod Conditions
pub mod ConfigSpecs
pub mod Counts
pub mod Directories
pub mod FirstRows
pub mod Fits
pub mod Listed
pub mod Objects
pub mod Rows
pub mod Seen
pub mod Texts
pub mod Views
