pub mod Places
pub mod Seats
pub mod Lawful
