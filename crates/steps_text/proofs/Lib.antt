pub mod TextLaws
pub mod Going
pub mod Cases
