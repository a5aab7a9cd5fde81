pub mod Fits
pub mod Draws
pub mod Quarters
pub mod Shown
pub mod Carried
