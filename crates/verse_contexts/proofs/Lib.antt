pub mod Heads
pub mod Plugs
pub mod Openings
pub mod Walkings
pub mod Branches
pub mod Reaches
