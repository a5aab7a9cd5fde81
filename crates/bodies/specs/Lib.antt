pub mod Form
pub mod Grid
pub mod Overlay
pub mod inner
