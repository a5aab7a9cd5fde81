pub mod Point
pub mod Read
pub mod inner
