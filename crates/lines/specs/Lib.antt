pub mod Refusals
pub mod Lines
pub mod Promises
pub mod Inner
