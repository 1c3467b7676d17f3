pub mod Folding
pub mod Marking
pub mod Numbers
pub mod Passing
pub mod Places
