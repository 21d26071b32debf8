pub mod Building
pub mod Refusing
pub mod Facing
pub mod Outward
