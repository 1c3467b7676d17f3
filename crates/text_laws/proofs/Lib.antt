pub mod Fronts
pub mod Lines
pub mod Ends
pub mod Runs
pub mod Digits
