pub mod Fields
pub mod Places
pub mod Rooms
