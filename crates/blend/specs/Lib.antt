pub mod Overlay
pub mod inner
