pub mod Any
pub mod Order
pub mod Out
pub mod Span
pub mod Puts
pub mod Numbers
pub mod Writing
