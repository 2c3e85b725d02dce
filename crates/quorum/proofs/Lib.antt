pub mod Masks
pub mod Sharing
pub mod Tested
pub mod Table
pub mod Holders
pub mod Wide
