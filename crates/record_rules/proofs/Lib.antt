pub mod Steps
pub mod Cases
pub mod Profile
pub mod Told
