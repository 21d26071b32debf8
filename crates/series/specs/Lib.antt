pub mod Refusals
pub mod Series
pub mod Late
pub mod Slices
pub mod Half
pub mod Pairs
pub mod Causes
