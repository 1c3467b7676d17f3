pub mod Bytes
pub mod Kinds
pub mod Trims
pub mod Numerals
pub mod Cuts
pub mod Marks
pub mod Spans
