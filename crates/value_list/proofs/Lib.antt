pub mod Cuts
pub mod Lines
pub mod Puts
pub mod Back
pub mod Texts
pub mod RoundTrip
pub mod Own
