pub mod FormLemmas
pub mod IncludeLemmas
pub mod LineLemmas
pub mod RunLemmas
pub mod SaidLemmas
pub mod WordLemmas
