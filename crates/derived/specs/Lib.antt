pub mod Canvas
pub mod Grid
pub mod Overlay
pub mod inner
