-- Laws that the impls of LookUp name: proofs, and what they speak of.
pub mod AffectedByChanges
pub mod AffectedByNames
pub mod AffectedSubjects
