pub mod Renamings
pub mod Scopes
pub mod Images
pub mod Moved
pub mod Substitutions
pub mod Occurrences
pub mod Laws
