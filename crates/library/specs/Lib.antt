pub mod Reading
pub mod Library
