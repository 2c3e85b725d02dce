pub mod Cables
pub mod CablesLemmas
