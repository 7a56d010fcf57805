pub mod Decimals
pub mod Names
pub mod Bindings
