pub mod Picture
pub mod Bytes
pub mod inner
