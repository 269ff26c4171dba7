pub mod Steps
pub mod Records
pub mod Stored
pub mod Gradients
