pub mod Good
pub mod Steps
pub mod Slips
pub mod Starts
pub mod Words
pub mod Kept
pub mod Six
pub mod MarkedCases
