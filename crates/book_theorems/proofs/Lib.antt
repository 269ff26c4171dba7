pub mod Fitting
pub mod Lift
pub mod Carried
pub mod Theorems
