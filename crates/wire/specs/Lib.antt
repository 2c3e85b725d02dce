pub mod Faults
pub mod Fields
pub mod Limits
pub mod Frames
pub mod Writes
pub mod Slips
pub mod Marked
