pub mod Calls
pub mod Lines
pub mod Texts
pub mod Readable
pub mod Told
pub mod Marked
