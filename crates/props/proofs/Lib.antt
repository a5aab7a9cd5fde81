pub mod ChainLaws
pub mod SizeLaws
pub mod Prefix
