pub mod Part
pub mod Words
pub mod Calculus
pub mod Line
pub mod Script
