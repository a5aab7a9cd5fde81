pub mod AttachLaws
