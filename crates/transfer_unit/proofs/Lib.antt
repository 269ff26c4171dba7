pub mod Ways
pub mod Layouts
