pub mod Resave
