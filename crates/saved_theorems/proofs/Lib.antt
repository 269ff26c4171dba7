pub mod Exact
pub mod Runs
pub mod Removed
pub mod Refused
pub mod Small
pub mod Judged
