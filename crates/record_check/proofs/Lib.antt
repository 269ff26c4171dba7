pub mod Cells
pub mod Decides
pub mod Gradients
pub mod Held
pub mod Kept
pub mod Fields
pub mod Unused
pub mod Unique
