pub mod Table
pub mod Sentence
pub mod Told
pub mod inner
