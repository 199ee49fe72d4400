pub mod Phases
pub mod Gates
pub mod Moves
pub mod Turns
