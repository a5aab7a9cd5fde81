pub mod Attach
pub mod inner
