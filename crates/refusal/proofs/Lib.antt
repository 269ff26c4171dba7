pub mod Some
pub mod Told
