pub mod Flat
pub mod Found
pub mod Kept
pub mod Places
pub mod Walk
pub mod Tops
