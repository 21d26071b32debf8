pub mod Reckoning
pub mod Outward
pub mod Drift
