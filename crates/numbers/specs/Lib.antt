pub mod Number
pub mod Field
pub mod Decimal
pub mod inner
