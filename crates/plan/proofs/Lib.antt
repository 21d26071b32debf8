pub mod Plans
pub mod Room
pub mod Bounds
pub mod Begun
pub mod Lots
pub mod Rows
pub mod Ahead
pub mod Drift
