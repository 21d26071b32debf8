pub mod Refusals
pub mod Ladder
