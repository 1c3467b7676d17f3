pub mod Model
pub mod Owners
pub mod Hearing
pub mod Stands
