pub mod Limits
pub mod Repeats
pub mod Shown
pub mod Due
pub mod Masks
