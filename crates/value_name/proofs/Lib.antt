pub mod Units
pub mod Readers
pub mod RoundTrip
pub mod Own
pub mod Writers
