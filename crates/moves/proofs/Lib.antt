pub mod Overs
pub mod Scopes
pub mod Renames
pub mod Seeks
pub mod Substitutes
pub mod Calls
pub mod Keeps
