pub mod Vectors
pub mod Operator
pub mod Slices
