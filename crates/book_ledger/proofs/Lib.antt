pub mod Strikes
pub mod Agreement
pub mod Without
pub mod Removal
pub mod ByCalls
