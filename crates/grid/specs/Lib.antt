pub mod Mosaic
pub mod Run
pub mod inner
