pub mod Lines
pub mod Copies
