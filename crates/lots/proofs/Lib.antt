pub mod Lots
pub mod OneRun
pub mod Outward
pub mod Drift
