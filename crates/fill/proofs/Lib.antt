pub mod WholeLaws
pub mod TopLaws
