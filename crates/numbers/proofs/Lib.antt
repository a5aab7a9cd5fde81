pub mod Number
pub mod Decimal
pub mod Field
