pub mod Common
pub mod Readers
pub mod Views
pub mod Parts
pub mod Held
pub mod Told
