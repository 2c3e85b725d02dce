pub mod Limits
pub mod Search
pub mod History
pub mod Setting
pub mod News
pub mod Conversions
