pub mod Reads
pub mod Tests
pub mod Rewrites
