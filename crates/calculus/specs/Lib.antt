pub mod Line
pub mod Meaning
pub mod Laws
pub mod Answers
pub mod Written
pub mod Figures
pub mod Rewriting
