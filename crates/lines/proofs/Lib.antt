pub mod Example
pub mod OtherLines
pub mod Putting
pub mod Determined
pub mod Numbered
pub mod Library
pub mod Decided
pub mod Exists
