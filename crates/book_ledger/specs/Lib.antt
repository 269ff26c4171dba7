pub mod Calls
pub mod Keepers
pub mod Ledger
pub mod History
pub mod Demand
