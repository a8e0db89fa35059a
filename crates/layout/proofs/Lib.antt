pub mod Opens
pub mod Peaks
pub mod Turns
