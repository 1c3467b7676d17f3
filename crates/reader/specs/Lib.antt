pub mod Reader
pub mod Strict
pub mod Laws
