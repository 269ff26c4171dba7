pub mod Fields
pub mod Sizes
pub mod Puts
pub mod Writes
