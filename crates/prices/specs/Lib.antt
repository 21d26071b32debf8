pub mod Refusals
pub mod Prices
pub mod Inner
pub mod Facing
pub mod Refusing
pub mod Outward
