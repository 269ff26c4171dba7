pub mod Reads
pub mod Orders
pub mod Saved
