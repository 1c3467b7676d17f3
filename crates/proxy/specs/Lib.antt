pub mod Model
pub mod Slots
pub mod Stands
pub mod Steps
pub mod Calls
