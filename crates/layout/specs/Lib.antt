pub mod Gates
pub mod Refusals
pub mod Boxes
pub mod Meetings
