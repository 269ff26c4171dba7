pub mod Alike
pub mod Agreed
pub mod Small
pub mod Example
pub mod Held
pub mod Validity
pub mod Readings
