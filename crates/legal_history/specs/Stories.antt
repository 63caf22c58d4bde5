-- Stories: the state to which steps lead, and which steps are lawful in it.
pub mod Commanded
pub mod Committing
pub mod Growth
pub mod Lanes
pub mod Lawful
pub mod Quiet
pub mod States
pub mod Steps
