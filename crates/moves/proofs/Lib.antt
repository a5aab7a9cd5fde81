pub mod Walks
pub mod Mirrors
pub mod Turned
pub mod Drawn
