pub mod Lists
pub mod Telling
pub mod Counts
pub mod NetCounts
pub mod Visited
pub mod Parting
pub mod Laws
pub mod Decided
mod Examples
pub mod Modes
