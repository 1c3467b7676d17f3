pub mod Report
pub mod Growth
