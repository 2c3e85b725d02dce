pub mod Plain
pub mod Echo
pub mod Methods
pub mod Runs
pub mod Decisions
pub mod Promises
pub mod Plays
