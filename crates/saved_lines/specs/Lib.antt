pub mod Values
pub mod Items
pub mod Tables
