pub mod Sizes
pub mod Formed
pub mod Fitting
pub mod Holding
pub mod Calls
pub mod Asking
pub mod Unique
pub mod Told
