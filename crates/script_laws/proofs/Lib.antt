pub mod Given
pub mod Words
pub mod Rules
pub mod Spellings
pub mod Numbers
pub mod Lines
pub mod Good
