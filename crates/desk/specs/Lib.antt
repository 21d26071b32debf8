pub mod Desk
pub mod Lines
