pub mod Records
pub mod Steps
pub mod Laws
