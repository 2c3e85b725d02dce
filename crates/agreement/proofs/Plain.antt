-- The proofs of the plain method.
pub mod Votes
pub mod Lowest
pub mod Branches
pub mod Verdicts
pub mod Postings
pub mod Sources
pub mod Closeness
pub mod Span
pub mod Binding
pub mod Ending
pub mod Promised
pub mod Played
