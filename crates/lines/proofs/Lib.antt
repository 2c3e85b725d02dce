pub mod Room
pub mod Forging
pub mod MarkedCases
pub mod Spelling
pub mod Writing
pub mod Fields
pub mod Meaning
pub mod Readable
mod ShortNumbers
