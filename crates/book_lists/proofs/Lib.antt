pub mod Keeping
pub mod Least
pub mod Sorting
