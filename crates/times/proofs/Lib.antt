pub mod Fields
pub mod Taken
pub mod Units
pub mod Told
pub mod Theorems
