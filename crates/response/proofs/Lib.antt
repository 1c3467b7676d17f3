pub mod Storing
pub mod Copying
pub mod Refusing
