pub mod Entries
pub mod Records
pub mod Texts
pub mod Words
