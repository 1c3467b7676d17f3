pub mod Slashes
pub mod Alike
