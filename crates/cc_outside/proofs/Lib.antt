pub mod Flows
pub mod Ends
mod WorkedEnds
