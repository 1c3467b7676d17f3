pub mod Words
pub mod Series
pub mod Payloads
pub mod Statements
pub mod Settings
pub mod Scripts
pub mod Hosts
