pub mod Played
pub mod Rows
pub mod Laws
