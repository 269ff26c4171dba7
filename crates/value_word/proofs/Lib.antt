pub mod Named
pub mod Table
pub mod RoundTrip
pub mod Arms
pub mod Numbers
pub mod Search
pub mod Volts
