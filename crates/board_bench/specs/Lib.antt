pub mod Lines
pub mod Asking
pub mod Saying
pub mod Answers
pub mod Turns
