pub mod Heads
pub mod Plain
pub mod Takes
pub mod Moments
pub mod Strictly
pub mod Once
