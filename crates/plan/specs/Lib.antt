pub mod Refusals
pub mod Plan
pub mod Slices
pub mod Input
pub mod Count
pub mod Drift
pub mod Inner
