pub mod Blanks
pub mod ByNumber
pub mod Decides
pub mod Gradients
pub mod Ranges
pub mod Unused
pub mod Unique
