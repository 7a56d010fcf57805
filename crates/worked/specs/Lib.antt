pub mod Questions
pub mod Answers
pub mod Programs
pub mod Example
pub mod Document
pub mod Rewritten
pub mod Counted
