pub mod Stored
pub mod inner
