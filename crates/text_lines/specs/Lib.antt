pub mod Spellings
pub mod Lines
pub mod Entries
pub mod Order
pub mod Places
pub mod Mask
pub mod Spots
