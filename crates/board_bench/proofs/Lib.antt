pub mod Lowest
pub mod Turning
