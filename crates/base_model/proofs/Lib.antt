-- What holds of bases: of what they name, select and hold, and what stays when rows are added.
pub mod Below
pub mod CatalogElements
pub mod CatalogsInOrder
pub mod CountedViews
pub mod Covered
pub mod Deeds
pub mod Either
pub mod EntriesBelow
pub mod FileRows
pub mod FilesBelow
pub mod FirstRowsStay
pub mod HeldObjects
pub mod HeldPaths
pub mod LabelsHold
pub mod Listings
pub mod Makings
pub mod NamedEdits
pub mod NamedOnce
pub mod NewVersions
pub mod OnBranches
pub mod Origins
pub mod OwnRows
pub mod Owned
pub mod Picks
pub mod PrivateFiles
pub mod RootRow
pub mod Stay
pub mod Tables
pub mod TreesStay
pub mod Values
pub mod VersionRows
pub mod VersionsStay
mod WorkedPatterns
mod WorkedPicks
mod WorkedSpecs
