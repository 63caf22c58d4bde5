-- What is decided of each command: its tests in their order, and the row that it makes.
pub mod CheckoutLines
pub mod CheckoutTests
pub mod Decisions
pub mod DirectoryLines
pub mod FileLines
pub mod Found
pub mod LabelLines
pub mod Lines
pub mod ObjectLines
pub mod Tests
