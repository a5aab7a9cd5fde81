pub mod Rounded
pub mod Depth
pub mod Nearest
pub mod Area
pub mod inner
