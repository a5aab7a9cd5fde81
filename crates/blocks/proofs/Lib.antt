pub mod HullLaws
pub mod ListLaws
