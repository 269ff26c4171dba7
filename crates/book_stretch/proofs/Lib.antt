pub mod Joins
pub mod Formed
pub mod Four
pub mod Passed
pub mod Arms
pub mod Turns
pub mod Unique
