-- How a base is opened: its rows are read and fit one another.
pub mod Opening
pub mod Reading
