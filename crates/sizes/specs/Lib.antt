pub mod Aperture
pub mod Margins
pub mod Scale
pub mod Sound
