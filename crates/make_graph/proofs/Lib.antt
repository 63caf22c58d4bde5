mod WalkedLemmas
mod VisitLemmas
mod ServingLemmas
mod SuffixLemmas
pub mod Standing
pub mod NeedLemmas
mod MakerLemmas
mod MarkLemmas
pub mod StandingLaws
mod Worked
mod NumberSetLemmas
mod ClosureSteps
mod CachedLemmas
mod DependantLemmas
