pub mod Sound
pub mod Faults
pub mod Terms
pub mod Calls
pub mod Promises
pub mod Steps
pub mod Opening
