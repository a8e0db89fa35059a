pub mod Words
pub mod Ends
pub mod Fills
