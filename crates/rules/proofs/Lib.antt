pub mod Order
pub mod Methods
pub mod Parts
