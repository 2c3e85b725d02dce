pub mod Gathering
pub mod Openings
pub mod Cutting
pub mod Calling
pub mod Lining
pub mod Telling
