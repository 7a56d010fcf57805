pub mod Given
pub mod Ways
pub mod Counts
pub mod Gathered
pub mod Parted
