pub mod Digits
pub mod Fields
pub mod Widths
pub mod Written
