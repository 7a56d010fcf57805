pub mod Determined
pub mod AddUp
