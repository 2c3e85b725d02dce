pub mod Limits
pub mod Shown
pub mod Read
pub mod Step
pub mod Marks
