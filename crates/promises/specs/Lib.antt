pub mod Before
pub mod Promises
