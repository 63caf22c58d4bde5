-- What the calls of a core ask and leave.
pub mod Acting
pub mod Answering
pub mod BuildCalls
pub mod Building
