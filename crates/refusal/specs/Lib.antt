pub mod Layers
pub mod Told
