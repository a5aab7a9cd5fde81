pub mod Scene
pub mod Room
pub mod Transforms
