pub mod Traces
pub mod Clients
pub mod Servers
pub mod Whole
pub mod Calls
