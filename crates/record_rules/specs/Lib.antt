pub mod Rules
pub mod Profiles
pub mod Broken
