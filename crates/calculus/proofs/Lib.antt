pub mod Single
pub mod Figures
pub mod Judges
pub mod Keeping
pub mod Writings
