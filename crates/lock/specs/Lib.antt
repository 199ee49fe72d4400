pub mod States
pub mod Questions
pub mod Calls
pub mod Locks
