pub mod Labels
pub mod Turns
pub mod Heads
pub mod Meanings
pub mod Tries
pub mod Accents
