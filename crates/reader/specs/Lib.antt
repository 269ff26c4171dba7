pub mod Refusals
pub mod Messages
pub mod Reader
pub mod State
pub mod Readings
pub mod Said
