pub mod Sound
pub mod Complete
pub mod Kept
