pub mod Parts
pub mod Frames
pub mod Walks
pub mod Scopes
