pub mod FieldLaws
pub mod Taken
pub mod OffsetLaws
