pub mod Runs
pub mod Reach
pub mod Candidates
pub mod Given
pub mod List
pub mod Ranks
