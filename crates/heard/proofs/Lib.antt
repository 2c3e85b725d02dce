pub mod Read
pub mod Grow
pub mod Made
pub mod Tested
pub mod Due
