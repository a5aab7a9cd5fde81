pub mod Size
pub mod Entry
pub mod Chain
pub mod inner
