pub mod Numbers
pub mod Wording
pub mod Judging
pub mod Spelling
pub mod Adding
