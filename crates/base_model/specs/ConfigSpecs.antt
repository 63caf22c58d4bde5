-- Config specs: which words spell their rules, and what these select.
pub mod Lines
pub mod Patterns
pub mod Rules
pub mod Selectors
pub mod Specs
pub mod WildCards
