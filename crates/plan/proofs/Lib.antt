pub mod Walks
pub mod Cases
