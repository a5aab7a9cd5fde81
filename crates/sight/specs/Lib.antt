pub mod Sight
pub mod inner
