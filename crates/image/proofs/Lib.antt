pub mod FormLaws
pub mod JudgedLaws
