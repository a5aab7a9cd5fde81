pub mod Pick
pub mod Any
pub mod Utf8
pub mod Reason
pub mod Out
pub mod Span
pub mod Puts
