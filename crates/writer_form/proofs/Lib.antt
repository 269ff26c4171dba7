pub mod Joins
pub mod Columns
pub mod Sizes
pub mod Texts
pub mod Values
