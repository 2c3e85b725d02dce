pub mod Starts
pub mod Quiet
mod Unmoved
mod Due
pub mod Memory
pub mod Fields
pub mod Step
pub mod Once
pub mod Stays
pub mod Range
pub mod Six
pub mod Facts
