pub mod AfterLaws
pub mod StageLaws
