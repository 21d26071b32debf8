pub mod Joined
pub mod Passed
pub mod Turned
pub mod Refusing
