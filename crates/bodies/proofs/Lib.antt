pub mod FormLaws
pub mod WordLaws
pub mod RunLaws
pub mod BackLaws
pub mod AgainLaws
