pub mod Lines
pub mod Putting
pub mod Library
