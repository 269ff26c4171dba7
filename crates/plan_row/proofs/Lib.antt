pub mod Lines
pub mod Codes
pub mod Addresses
pub mod Readers
