pub mod Turn
pub mod Place
pub mod Chain
pub mod inner
