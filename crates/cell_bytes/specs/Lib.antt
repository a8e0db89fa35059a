pub mod Spelling
pub mod Holding
