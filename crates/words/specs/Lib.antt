pub mod Code
pub mod Read
pub mod Fill
pub mod Descriptors
pub mod Properties
pub mod Spots
pub mod Canvas
