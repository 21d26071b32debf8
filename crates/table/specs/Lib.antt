pub mod Refusals
pub mod Places
pub mod Table
pub mod Promises
