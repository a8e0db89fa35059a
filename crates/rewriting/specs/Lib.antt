pub mod Rules
pub mod Redexes
pub mod Steps
pub mod Matchings
pub mod Programs
