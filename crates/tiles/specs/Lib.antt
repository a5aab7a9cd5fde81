pub mod Tiles
pub mod inner
