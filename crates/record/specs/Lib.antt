pub mod Refusals
pub mod Record
pub mod Save
pub mod Promises
pub mod Refusing
pub mod Inner
