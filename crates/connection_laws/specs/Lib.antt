pub mod Moments
pub mod Laws
pub mod Promise
pub mod Calls
