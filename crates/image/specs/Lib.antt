pub mod Format
pub mod Sound
