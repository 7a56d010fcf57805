pub mod Numbers
pub mod First
pub mod Order
pub mod Outcome
pub mod Verdict
pub mod Tells
pub mod Told
