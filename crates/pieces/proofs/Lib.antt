pub mod Shows
pub mod Splits
