pub mod Refusals
pub mod Checks
pub mod Configuration
pub mod Model
pub mod Refusing
