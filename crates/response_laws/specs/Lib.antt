pub mod Ear
pub mod Grammar
pub mod StatusLaws
pub mod Laws
pub mod Held
pub mod Feeding
