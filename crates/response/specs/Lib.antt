pub mod Status
pub mod Heads
pub mod Reading
pub mod Copies
pub mod Found
pub mod Refusals
