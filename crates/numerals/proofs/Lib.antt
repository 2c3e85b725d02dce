pub mod Reading
pub mod Meaning
pub mod Fields
