pub mod Counting
pub mod Hex
pub mod Lines
pub mod Placing
