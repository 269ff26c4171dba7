pub mod Report
pub mod Program
