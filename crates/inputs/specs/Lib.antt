pub mod Layers
pub mod Inputs
pub mod inner
