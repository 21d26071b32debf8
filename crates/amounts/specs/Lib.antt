pub mod Refusals
pub mod Amounts
pub mod Rounding
pub mod Inner
