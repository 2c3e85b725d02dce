pub mod Numerals
pub mod Parts
