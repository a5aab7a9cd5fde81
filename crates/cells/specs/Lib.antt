pub mod Cell
pub mod inner
