pub mod Whole
pub mod Matching
pub mod Identity
pub mod Unifiers
pub mod Alike
