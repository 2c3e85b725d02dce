-- The proofs of the echo method.
pub mod Tests
pub mod Sound
pub mod Complete
pub mod Echoes
pub mod Heard
pub mod Span
pub mod Close
pub mod Live
pub mod Bounds
pub mod Promised
pub mod Played
