pub mod Plans
pub mod Kept
