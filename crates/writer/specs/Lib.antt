pub mod Writer
pub mod Copied
