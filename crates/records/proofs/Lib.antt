pub mod RecordLaws
pub mod TrayLaws
