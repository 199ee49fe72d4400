pub mod Words
pub mod Fields
pub mod Lines
pub mod Outs
pub mod Events
pub mod Counts
pub mod Rows
pub mod Scripts
