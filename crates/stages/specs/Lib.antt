pub mod Chain
pub mod inner
