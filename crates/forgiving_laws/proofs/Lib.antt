pub mod Lines
pub mod Names
pub mod Lengths
pub mod Fairly
pub mod Paths
pub mod Views
pub mod Alike
