-- A call of the program: what it is asked, its status, and the cause of this.
pub mod Asked
pub mod Causes
pub mod Sites
pub mod Statuses
