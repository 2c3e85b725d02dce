pub mod Numbers
pub mod Fits
pub mod Boards
pub mod Shown
pub mod Faultless
pub mod Legal
pub mod Carried
pub mod Onward
pub mod Outside
pub mod Posted
pub mod Bringing
pub mod Played
pub mod Accepted
pub mod Promised
pub mod Decided
pub mod Called
mod Quiet
