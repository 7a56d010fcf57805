pub mod Coming
pub mod Taking
pub mod Calling
pub mod Said
pub mod Blocks
pub mod Handed
pub mod Following
pub mod Determined
