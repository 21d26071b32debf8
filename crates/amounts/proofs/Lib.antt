pub mod Signed
pub mod Differences
pub mod Sizes
pub mod Limits
pub mod Words
pub mod Counting
pub mod Least
