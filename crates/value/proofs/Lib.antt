pub mod Back
pub mod Own
pub mod Shown
pub mod Settings
pub mod Fit
