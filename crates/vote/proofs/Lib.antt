pub mod Options
pub mod Seeking
pub mod Memories
pub mod Counting
pub mod Grades
